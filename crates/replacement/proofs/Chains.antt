-- Chains of `newer` rise, so that each ends, and what is read for a module is the last of its chain.
-- Assumes nothing.
use mathlib.Core.Path.{◌≡◌, refl, sym, ap, ap₂, subst, ◌∙◌}
use mathlib.Core.Logic.{◌⊎◌, inl, inr, ⊎_elim}
use mathlib.Core.Bool.{true, false, ◌&&◌}
use mathlib.Core.List.{List, [], ◌∷◌, map}
use Prim.Native.Nat.{ℕ, zero, suc, ◌+◌, ◌≤◌, ◌<◌}
use native.Mathlib.Omega.{arith}
use native.Mathlib.Decide.{dec_lt}
use lib.ListN.{length, get_or, set, length-set, get_or-eq_default}
use lib.Seq.{ext_get_or, get_or-set_same, get_or-set_other}
use lib.Dec.{eqb, ltb}
use borrow.Author.Tests.{eqb-true, eqb-false, eq-eqb, ne_eqb, ltb-true, lt-ltb, le-ltb}
use Rattle.lists.specs.Words.{up_to}
use Rattle.lists.proofs.Laws.{both, and_parts, or_parts, every-mem, up_to-mem, get_d-in, get_d-map-up_to, length-map-up_to}
use Rattle.tables.specs.Project.{missing}
use Rattle.tables.specs.Refusal.{fits_at, newer_fits}
use Rattle.replacement.specs.Replacement.{through, latest, as_read}
use Rattle.replacement.specs.inner.Passes.{Found, found_at}

-- a chain ends where nothing supersedes
through-end : (newer : List ℕ) (k m : ℕ) → get_or newer m missing ≡ missing → through newer k m ≡ m
unfolding through
through-end newer zero m e = refl
through-end newer (suc k) m e = rw (eq-eqb (get_or newer m missing) missing e)

through-next : (newer : List ℕ) (k m : ℕ) → (get_or newer m missing ≡ missing → ⊥) → through newer (suc k) m ≡ through newer k (get_or newer m missing)
unfolding through
through-next newer k m n = rw (ne_eqb (get_or newer m missing) missing n)

pub latest-end : (newer : List ℕ) (m : ℕ) → get_or newer m missing ≡ missing → latest newer m ≡ m
unfolding latest
latest-end newer m e = through-end newer (length newer) m e

-- what has no row is read as it is: the mark
pub latest-past : (newer : List ℕ) (m : ℕ) → length newer ≤ m → latest newer m ≡ m
latest-past newer m l = latest-end newer m (get_or-eq_default newer missing l)

module _ (newer : List ℕ) (fits : newer_fits newer ≡ true) where
  -- a `newer` leads to a later row
  pub rises : (m : ℕ) → (get_or newer m missing ≡ missing → ⊥) → (m < get_or newer m missing) × (get_or newer m missing < length newer)
  unfolding newer_fits
  rises m n = go (dec_lt m (length newer))
    where
      go : Dec (m < length newer) → (m < get_or newer m missing) × (get_or newer m missing < length newer)
      go (no h) = absurd (n (get_or-eq_default newer missing (omega arith)))
      go (yes h) =
          let e : get_or newer m 0 ≡ get_or newer m missing = get_d-in newer m 0 missing h in
          ⊎_elim
          (λ q. absurd (n (sym e ∙ eqb-true (get_or newer m 0) missing q)))
          (λ q.
          let a = and_parts (ltb m (get_or newer m 0)) (ltb (get_or newer m 0) (length newer)) q in
          let b = ltb-true m (get_or newer m 0) a.0 in
          let c = ltb-true (get_or newer m 0) (length newer) a.1 in
          (omega arith, omega arith))
          (or_parts (eqb (get_or newer m 0) missing) (ltb m (get_or newer m 0) && ltb (get_or newer m 0) (length newer)) (every-mem (fits_at newer) (up_to (length newer)) fits (up_to-mem h)))

  -- as many steps as there are later rows are enough
  enough : (k j m : ℕ) → length newer ≤ m + k → length newer ≤ m + j → through newer k m ≡ through newer j m
  unfolding through
  enough zero j m a b = sym (through-end newer j m (get_or-eq_default newer missing (omega arith)))
  enough (suc k) zero m a b = through-end newer (suc k) m (get_or-eq_default newer missing (omega arith))
  enough (suc k) (suc j) m a b =
      ⊎_elim
      (λ e. let q = eqb-true (get_or newer m missing) missing e in through-end newer (suc k) m q ∙ sym (through-end newer (suc j) m q))
      (λ e.
      let n = eqb-false (get_or newer m missing) missing e in
      let r = rises m n in
      through-next newer k m n ∙ enough k j (get_or newer m missing) (omega (arith, r.0)) (omega (arith, r.0)) ∙ sym (through-next newer j m n))
      (both (eqb (get_or newer m missing) missing))

  -- one step on, the same is read
  pub latest-next : (m : ℕ) → (get_or newer m missing ≡ missing → ⊥) → latest newer m ≡ latest newer (get_or newer m missing)
  unfolding latest
  latest-next m n =
      let r = rises m n in
      enough (length newer) (suc (length newer)) m (omega arith) (omega arith) ∙ through-next newer (length newer) m n

  -- what is read for a module has a row
  through-in : (k m : ℕ) → m < length newer → through newer k m < length newer
  unfolding through
  through-in zero m l = l
  through-in (suc k) m l =
      ⊎_elim
      (λ e. let z = through-end newer (suc k) m (eqb-true (get_or newer m missing) missing e) in subst (λ (x : ℕ). x < length newer) (sym z) l)
      (λ e.
      let n = eqb-false (get_or newer m missing) missing e in
      subst (λ (x : ℕ). x < length newer) (sym (through-next newer k m n)) (through-in k (get_or newer m missing) (rises m n).1))
      (both (eqb (get_or newer m missing) missing))

  pub latest-in : (m : ℕ) → m < length newer → latest newer m < length newer
  unfolding latest
  latest-in m l = through-in (length newer) m l

  -- and nothing supersedes it
  through-last : (k m : ℕ) → length newer ≤ m + k → get_or newer (through newer k m) missing ≡ missing
  unfolding through
  through-last zero m a = get_or-eq_default newer missing (omega arith)
  through-last (suc k) m a =
      ⊎_elim
      (λ e. let q = eqb-true (get_or newer m missing) missing e in ap (λ (x : ℕ). get_or newer x missing) (through-end newer (suc k) m q) ∙ q)
      (λ e.
      let n = eqb-false (get_or newer m missing) missing e in
      ap (λ (x : ℕ). get_or newer x missing) (through-next newer k m n) ∙ through-last k (get_or newer m missing) (omega (arith, (rises m n).0)))
      (both (eqb (get_or newer m missing) missing))

  pub latest-last : (m : ℕ) → get_or newer (latest newer m) missing ≡ missing
  unfolding latest
  latest-last m = through-last (length newer) m (omega arith)

-- what was found is what is read, for a module or the mark
pub found-read : (newer : List ℕ) (m : ℕ) → (m < length newer) ⊎ (length newer ≤ m) → found_at (map (latest newer) (up_to (length newer))) m ≡ latest newer m
found-read newer m (inl l) = rw (length-map-up_to (latest newer) (length newer), lt-ltb m (length newer) l) (get_d-map-up_to (latest newer) (length newer) m 0 l)
found-read newer m (inr l) = rw (length-map-up_to (latest newer) (length newer), le-ltb m (length newer) l) (sym (latest-past newer m l))

-- the modules from m on, as the pass finds them from behind

module _ (newer found : List ℕ) (m : ℕ) (l : m < length newer) where
  pub found-end : get_or newer m 0 ≡ missing → m ≡ latest newer m
  found-end e = sym (latest-end newer m (get_d-in newer m missing 0 l ∙ e))

  -- the next one of the chain has a row, where the same is found
  next-read : Found newer found (m + 1) → (get_or newer m 0 ≡ missing → ⊥) → (get_or newer m 0 < length found) × (get_or found (get_or newer m 0) 0 ≡ latest newer m)
  next-read f n =
      let e : get_or newer m missing ≡ get_or newer m 0 = get_d-in newer m missing 0 l in
      let k : get_or newer m missing ≡ missing → ⊥ = λ q. n (sym e ∙ q) in
      let r = rises newer f.fits m k in
      let a : m < get_or newer m 0 = subst (λ (x : ℕ). m < x) e r.0 in
      let b : get_or newer m 0 < length newer = subst (λ (x : ℕ). x < length newer) e r.1 in (
        omega (arith, b, f.size),
        f.later (get_or newer m 0) (omega arith) b ∙ ap (latest newer) (sym e) ∙ sym (latest-next newer f.fits m k),
      )

  pub next-in : Found newer found (m + 1) → (get_or newer m 0 ≡ missing → ⊥) → get_or newer m 0 < length found
  next-in f n = (next-read f n).0

  pub found-next : Found newer found (m + 1) → (get_or newer m 0 ≡ missing → ⊥) → get_or found (get_or newer m 0) 0 ≡ latest newer m
  found-next f n = (next-read f n).1

  pub found-more : (x : ℕ) → Found newer found (m + 1) → x ≡ latest newer m → Found newer (set found m x) m
  found-more x f e = record {
    fits = f.fits;
    few = f.few;
    size = length-set found m x ∙ f.size;
    later = λ i a b. later i a b (both (eqb i m));
  }
    where
      later : (i : ℕ) → m ≤ i → i < length newer → (eqb i m ≡ true) ⊎ (eqb i m ≡ false) → get_or (set found m x) i 0 ≡ latest newer i
      later i a b (inl h) = let q = eqb-true i m h in ap (λ (j : ℕ). get_or (set found m x) j 0) q ∙ get_or-set_same found m x 0 (omega (arith, f.size)) ∙ e ∙ ap (latest newer) (sym q)
      later i a b (inr h) = let q = eqb-false i m h in get_or-set_other found m i x 0 q ∙ f.later i (omega arith) b

pub found_all : (newer found : List ℕ) → Found newer found 0 → found ≡ map (latest newer) (up_to (length newer))
found_all newer found f =
    ext_get_or 0 found (map (latest newer) (up_to (length newer))) (f.size ∙ sym (length-map-up_to (latest newer) (length newer)))
    (λ i l. let k : i < length newer = omega (arith, f.size) in f.later i (omega arith) k ∙ sym (get_d-map-up_to (latest newer) (length newer) i 0 k))

pub ruleset latest_steps = (found-end, next-in, found-next, found-more, found_all)

-- a column by what was found is the column as it is read
pub found-all-read : (newer column : List ℕ) → map (found_at (map (latest newer) (up_to (length newer)))) column ≡ as_read newer column
found-all-read newer [] = refl
found-all-read newer (x ∷ xs) = ap₂ ◌∷◌ (found-read newer x (under x)) (found-all-read newer xs)
  where
    under : (m : ℕ) → (m < length newer) ⊎ (length newer ≤ m)
    under m = go (dec_lt m (length newer))
      where
        go : Dec (m < length newer) → (m < length newer) ⊎ (length newer ≤ m)
        go (yes h) = inl h
        go (no h) = inr (omega arith)
