-- The steps over one table: what holds after each turn of their loops.
-- Assumes nothing.
use Rattle.std.specs.Prelude.{◌≡◌, ℕ, zero, suc, ◌+◌, ◌<◌, ◌≤◌, Bool, true, false, not, ◌⊎◌, List, [], ◌∷◌, ◌++◌, map, length, get_or, set, Some}
use mathlib.Core.Path.{refl, sym, ap, subst, ◌∙◌}
use mathlib.Core.Logic.{inl, inr, ⊎_elim}
use mathlib.Core.Bool.{true≢false, false≢true}
use native.Mathlib.Omega.{arith}
use native.Mathlib.Decide.{ℕ_discrete, dec_lt}
use lib.ListN.{length-set, get_or-eq_default}
use lib.Seq.{ext_get_or, get_or-set_same, get_or-set_other}
use Rattle.lists.specs.Words.{is_zero, up_to, has, ones}
use Rattle.lists.proofs.Laws.{has_in, get_d-in, mark-in, mark-out, get_d-map-up_to, length-map-up_to}
use denote.Ref.{Bor}
use Rattle.std.specs.declared.iter.Zip.{Zip}
use Rattle.std.specs.declared.slice.Iter.{Iter}
use Rattle.std.specs.Iterator.{Yields}
use Rattle.std.specs.Iterator.Adapters.{zip_first, zip_second}
use Rattle.std.specs.Slice.Iter.{iter_rest}
use Rattle.std.proofs.iter.Yields.{fronts}
use Rattle.std.proofs.lemmas.Iterator.{zips}
use Rattle.lists.proofs.Zips.{turn_at}
use Rattle.walk.specs.Close.{Within, Bits}
use Rattle.walk.proofs.Visits.{fresh-zero, set-zeros, set-bits}
use Rattle.tables.specs.Lookups.{greater_of}
use Rattle.tables.specs.Accepted.{Below}
use Rattle.tables.proofs.Greater.{greater-first, greater-second, greater-one}
use Rattle.marks.specs.Steps.{looked, Raised, Owners, Adding, Added, Row}

-- writing a column from place 0

pub record Writing (f : ℕ → ℕ) (n i : ℕ) (out : List ℕ) : Type 0 where
  pub len : length out ≡ n
  pub done : (j : ℕ) → j < i → get_or out j 0 ≡ f j

module _ (f : ℕ → ℕ) (n : ℕ) where
  pub writing_start : (out : List ℕ) → length out ≡ n → Writing f n 0 out
  writing_start out e = record { len = e; done = λ j l. absurd (omega arith) }

  module _ (i : ℕ) (out : List ℕ) (g : Writing f n i out) where
    pub writing-put : (x : ℕ) → i < n → x ≡ f i → Writing f n (i + 1) (set out i x)
    writing-put x l e = record { len = length-set out i x ∙ g.len; done = λ j k. pick j k (ℕ_discrete j i) }
      where
        pick : (j : ℕ) → j < i + 1 → Dec (j ≡ i) → get_or (set out i x) j 0 ≡ f j
        pick j k (yes q) = ap (λ (y : ℕ). get_or (set out i x) y 0) q ∙ get_or-set_same out i x 0 (omega (arith, g.len)) ∙ e ∙ ap f (sym q)
        pick j k (no q) = get_or-set_other out i j x 0 q ∙ g.done j (omega arith)

    pub writing-end : n ≤ i → out ≡ map f (up_to n)
    writing-end l =
        ext_get_or 0 out (map f (up_to n)) (g.len ∙ sym (length-map-up_to f n))
        (λ j k. let b : j < n = omega (arith, g.len) in g.done j (omega arith) ∙ sym (get_d-map-up_to f n j 0 b))

-- marking one place

pub has-set : (t : List ℕ) (m i : ℕ) → has t i ≡ true → has (set t m 1) i ≡ true
has-set [] m i e = e
has-set (x ∷ t) zero zero e = refl
has-set (x ∷ t) zero (suc i) e = e
has-set (x ∷ t) (suc m) zero e = e
has-set (x ∷ t) (suc m) (suc i) e = has-set t m i e

pub set-has : (t : List ℕ) (m i : ℕ) → has (set t m 1) i ≡ true → (i ≡ m) ⊎ (has t i ≡ true)
set-has t m i e = go (ℕ_discrete i m)
  where
    go : Dec (i ≡ m) → (i ≡ m) ⊎ (has t i ≡ true)
    go (yes p) = inl p
    go (no n) = inr (ap (λ (x : ℕ). not (is_zero x)) (sym (get_or-set_other t m i 1 0 n)) ∙ e)

-- a mark that was just put is in
pub set-in : (t : List ℕ) (m : ℕ) → m < length t → has (set t m 1) m ≡ true
set-in t m l = ap (λ (x : ℕ). not (is_zero x)) (get_or-set_same t m 1 0 l)

-- raising a mark

pub raised-put : (m x y : ℕ) (s : List ℕ) → y ≡ greater_of x (get_or s m 0) → Raised m x s (set s m y)
raised-put m x y s g = record {
  len = length-set s m y;
  there = λ l. get_or-set_same s m y 0 l ∙ g;
  other = λ i n. get_or-set_other s m i y 0 n;
}

module _ {m x : ℕ} {s t : List ℕ} (r : Raised m x s t) where
  one_of : m < length s → (get_or t m 0 ≡ x) ⊎ (get_or t m 0 ≡ get_or s m 0)
  one_of l = rw (r.there l) (greater-one x (get_or s m 0))

  -- what was in stays
  pub raised-old : Within s t
  unfolding Within
  raised-old i e = go (ℕ_discrete i m)
    where
      go : Dec (i ≡ m) → has t i ≡ true
      go (yes q) =
          let l : m < length s = rw q at (has_in s i e) in
          let n : get_or s m 0 ≡ 0 → ⊥ = λ z. true≢false (sym e ∙ mark-out (get_or s i 0) (rw (sym q) at z)) in
          rw q (mark-in (get_or t m 0) (λ z. n (omega (arith, r.there l, greater-second x (get_or s m 0)))))
      go (no n) = ap (λ (y : ℕ). not (is_zero y)) (r.other i n) ∙ e

  -- the place comes in where the mark isn't 0
  pub raised-new : not (is_zero x) ≡ true → m < length s → has t m ≡ true
  raised-new e l = mark-in (get_or t m 0) (λ z. true≢false (sym e ∙ mark-out x (omega (arith, r.there l, greater-first x (get_or s m 0)))))

  -- and nothing else does
  pub raised-only : (i : ℕ) → has t i ≡ true → (has s i ≡ true) ⊎ ((i ≡ m) × (not (is_zero x) ≡ true))
  raised-only i e = go (ℕ_discrete i m)
    where
      go : Dec (i ≡ m) → (has s i ≡ true) ⊎ ((i ≡ m) × (not (is_zero x) ≡ true))
      go (yes q) =
          let e' : has t m ≡ true = rw q at e in
          let l : m < length s = rw r.len at (has_in t m e') in
          ⊎_elim (λ k. inr (q, ap (λ (y : ℕ). not (is_zero y)) (sym k) ∙ e'))
          (λ k. inl (rw q (ap (λ (y : ℕ). not (is_zero y)) (sym k) ∙ e')))
          (one_of l)
      go (no n) = inl (ap (λ (y : ℕ). not (is_zero y)) (sym (r.other i n)) ∙ e)

  pub raised-bits : x ≤ 1 → Bits s → Bits t
  unfolding Bits
  raised-bits u b i = go (ℕ_discrete i m) (dec_lt i (length s))
    where
      go : Dec (i ≡ m) → Dec (i < length s) → get_or t i 0 ≤ 1
      go (yes q) (yes l) =
          ⊎_elim (λ k. let h : get_or t i 0 ≡ x = rw q k in omega arith) (λ k. let h : get_or t i 0 ≡ get_or s i 0 = rw q k in omega (arith, b i)) (one_of (rw q at l))
      go (no n) l = let h = r.other i n in omega (arith, b i)
      go (yes q) (no l) = let h : get_or t i 0 ≡ 0 = get_or-eq_default t 0 (omega (arith, r.len)) in omega arith

-- marking owners of rows

module _ (owner rows s : List ℕ) where
  pub owners-start : Owners owner rows 0 s s
  unfolding Within
  owners-start = record { len = refl; bits = λ a b. b; old = λ i e. e; new = λ row l. absurd (omega arith); only = λ m e. inl e }

  pub owners-put : (i : ℕ) (t u : List ℕ) → Owners owner rows i s t → {m x : ℕ} → get_or owner i 0 ≡ m → get_or rows i 0 ≡ x → Raised m x t u → Owners owner rows (i + 1) s u
  unfolding Within Bits
  owners-put i t u g {m} {x} named mark r = record {
    len = r.len ∙ g.len;
    bits = λ a b. raised-bits r (subst (λ (y : ℕ). y ≤ 1) mark (a i)) (g.bits a b);
    old = λ j e. raised-old r j (g.old j e);
    new = λ row k e b. go row e b (ℕ_discrete row i) k;
    only = λ j e.
        ⊎_elim (λ k. ⊎_elim (λ a. inl a) (λ q. inr (q.0, omega (arith, q.1), q.2, q.3)) (g.only j k))
        (λ q. inr (i, omega arith, ap (λ (y : ℕ). not (is_zero y)) mark ∙ q.1, named ∙ sym q.0))
        (raised-only r j e);
  }
    where
      go : (row : ℕ) → has rows row ≡ true → get_or owner row 0 < length s → Dec (row ≡ i) → row < i + 1 → has u (get_or owner row 0) ≡ true
      go row e k (yes q) b =
          let n : get_or owner row 0 ≡ m = ap (λ (y : ℕ). get_or owner y 0) q ∙ named in
          subst (λ (y : ℕ). has u y ≡ true) (sym n) (raised-new r (ap (λ (y : ℕ). not (is_zero y)) (sym (ap (λ (y : ℕ). get_or rows y 0) q ∙ mark)) ∙ e) (omega (arith, g.len)))
      go row e k (no q) b = raised-old r (get_or owner row 0) (g.new row (omega arith) e k)

-- adding to a set

module _ (f : ℕ → Type 0) (s : List ℕ) where
  pub adding-start : Adding f 0 s s false
  unfolding Within
  adding-start = record {
    len = refl;
    bits = λ b. b;
    old = λ i e. e;
    all = λ m l. absurd (omega arith);
    only = λ m e. inl e;
    fewer = omega arith;
    same = λ e. refl;
    falls = λ e. absurd (false≢true e);
  }

  module _ (i : ℕ) (t : List ℕ) (changed : Bool) (g : Adding f i s t changed) where
    pub adding-pass : (f i → has t i ≡ true) → Adding f (i + 1) s t changed
    adding-pass h = record {
      len = g.len;
      bits = g.bits;
      old = g.old;
      all = λ m l a. go m a (ℕ_discrete m i) l;
      only = g.only;
      fewer = g.fewer;
      same = g.same;
      falls = g.falls;
    }
      where
        go : (m : ℕ) → f m → Dec (m ≡ i) → m < i + 1 → has t m ≡ true
        go m a (yes q) l = subst (λ (x : ℕ). has t x ≡ true) (sym q) (h (subst f q a))
        go m a (no q) l = g.all m (omega arith) a

    pub adding-put : f i → i < length t → get_or t i 0 ≡ 0 → Adding f (i + 1) s (set t i 1) true
    unfolding Within
    adding-put a l e =
        let z = set-zeros t i (fresh-zero t i l e) in
        record {
          len = length-set t i 1 ∙ g.len;
          bits = λ b. set-bits t i (g.bits b);
          old = λ m h. has-set t i m (g.old m h);
          all = λ m k h. go m h (ℕ_discrete m i) k;
          only = λ m h. ⊎_elim (λ q. inr (subst f (sym q) a)) (g.only m) (set-has t i m h);
          fewer = omega (arith, g.fewer);
          same = λ q. absurd (true≢false q);
          falls = λ q. omega (arith, g.fewer);
        }
      where
        go : (m : ℕ) → f m → Dec (m ≡ i) → m < i + 1 → has (set t i 1) m ≡ true
        go m h (yes q) k = subst (λ (x : ℕ). has (set t i 1) x ≡ true) (sym q) (set-in t i l)
        go m h (no q) k = has-set t i m (g.all m (omega arith) h)

-- nothing is added where it holds only of what is in
pub added_none : (f : ℕ → Type 0) (s : List ℕ) → ((m : ℕ) → m < length s → f m → has s m ≡ true) → Added f s s false
added_none f s h =
    let a = adding-start f s in
    record { len = refl; bits = a.bits; old = a.old; all = h; only = a.only; fewer = a.fewer; same = a.same; falls = a.falls }

-- what holds of the same places is added the same
pub added-cong : (f g : ℕ → Type 0) {s t : List ℕ} {changed : Bool} → ((m : ℕ) → m < length s → g m → f m) → ((m : ℕ) → f m → g m) → Added f s t changed → Added g s t changed
added-cong f g there back a = record {
  len = a.len;
  bits = a.bits;
  old = a.old;
  all = λ m l h. a.all m l (there m l h);
  only = λ m e. ⊎_elim (λ h. inl h) (λ h. inr (back m h)) (a.only m e);
  fewer = a.fewer;
  same = a.same;
  falls = a.falls;
}

pub ruleset raising = raised-put

-- values looked up

pub length-looked : (other : ℕ) (table column : List ℕ) → length (looked other table column) ≡ length column
unfolding looked
length-looked other table column = length-map-up_to (λ (row : ℕ). get_or table (get_or column row 0) other) (length column)

pub looked-at : (other : ℕ) (table column : List ℕ) (row d : ℕ) → row < length column → get_or (looked other table column) row d ≡ get_or table (get_or column row 0) other
unfolding looked
looked-at other table column row d l = get_d-map-up_to (λ (i : ℕ). get_or table (get_or column i 0) other) (length column) row d l

-- a column of these values
pub looked-all : (other : ℕ) (table column out : List ℕ) → length out ≡ length column → ((k : ℕ) → k < length column → get_or out k 0 ≡ get_or table (get_or column k 0) other) → out ≡ looked other table column
looked-all other table column out e h =
    ext_get_or 0 out (looked other table column) (e ∙ sym (length-looked other table column))
    (λ k l. let i : k < length column = omega (arith, e) in h k i ∙ sym (looked-at other table column k 0 i))

pub ruleset looking = looked-all

-- an owner that has a place is looked up by any default
pub looked-in : (other : ℕ) (table column : List ℕ) (row : ℕ) → row < length column → get_or column row 0 < length table → get_or (looked other table column) row 0 ≡ get_or table (get_or column row 0) 0
looked-in other table column row l k = looked-at other table column row 0 l ∙ get_d-in table (get_or column row 0) other 0 k

pub looked-has : (set column : List ℕ) (row : ℕ) → row < length column → has (looked 0 set column) row ≡ has set (get_or column row 0)
looked-has set column row l = ap (λ (x : ℕ). not (is_zero x)) (looked-at 0 set column row 0 l)

-- a row that is marked there
pub has-looked : (set column : List ℕ) (row : ℕ) → has (looked 0 set column) row ≡ true → (row < length column) × (has set (get_or column row 0) ≡ true)
has-looked set column row e =
    let l : row < length column = rw (length-looked 0 set column) at (has_in (looked 0 set column) row e) in
    (l, sym (looked-has set column row l) ∙ e)

-- marks that are looked up are 0 or 1 where the set's are
pub looked-bits : (set column : List ℕ) → Bits set → Bits (looked 0 set column)
unfolding Bits
looked-bits set column b row = go (dec_lt row (length column))
  where
    go : Dec (row < length column) → get_or (looked 0 set column) row 0 ≤ 1
    go (yes l) = rw (looked-at 0 set column row 0 l) (b (get_or column row 0))
    go (no l) = let z : get_or (looked 0 set column) row 0 ≡ 0 = get_or-eq_default (looked 0 set column) 0 (omega (arith, length-looked 0 set column)) in omega arith

-- a turn over two columns side by side raises the owner's mark
module _ (xs : List (Bor ℕ × Bor ℕ)) (p : Bor ℕ × Bor ℕ) (i t u : Zip (Iter ℕ) (Iter ℕ)) (s old new : List ℕ) where
  pub owner-turn : (other : ℕ) (owner value rows : List ℕ) → Owners (looked other owner value) rows (length xs) s old → Raised (get_or owner p.0.now 0) p.1.now old new → Below (length owner) value
      → Yields (zips fronts fronts) i xs t → zips fronts fronts t (Some p) u → iter_rest (zip_first i) ≡ value → iter_rest (zip_second i) ≡ rows
      → Owners (looked other owner value) rows (length (xs ++ (p ∷ []))) s new
  owner-turn other owner value rows g r below y h first second =
      let n = turn_at value rows xs i t u first second y p h in
      let l = below (length xs) n.first_in in
      rw n.more (owners-put (looked other owner value) rows s (length xs) old new g (looked-in other owner value (length xs) n.first_in (omega (arith, l, n.first)) ∙ ap (λ (k : ℕ). get_or owner k 0) n.first) n.second r)

  pub mark-turn : (S owner value : List ℕ) → Owners owner (looked 0 S value) (length xs) s old → Raised p.0.now (get_or S p.1.now 0) old new
      → Yields (zips fronts fronts) i xs t → zips fronts fronts t (Some p) u → iter_rest (zip_first i) ≡ owner → iter_rest (zip_second i) ≡ value
      → Owners owner (looked 0 S value) (length (xs ++ (p ∷ []))) s new
  mark-turn S owner value g r y h first second =
      let n = turn_at owner value xs i t u first second y p h in
      rw n.more (owners-put owner (looked 0 S value) s (length xs) old new g n.first (looked-at 0 S value (length xs) 0 n.second_in ∙ ap (λ (k : ℕ). get_or S k 0) n.second) r)

-- owners of rows, from a set that holds nothing
module _ (owner value S s t : List ℕ) (none : (m : ℕ) → has s m ≡ true → ⊥) (lengths : length value ≡ length owner) (o : Owners owner (looked 0 S value) (length owner) s t) where
  pub owners-row : (m : ℕ) → has t m ≡ true → Row owner value S m
  owners-row m e =
      ⊎_elim (λ h. absurd (none m h))
      (λ r. record { row = r.0; there = r.1; named = r.3; holds = (has-looked S value r.0 r.2).1 })
      (o.only m e)

  pub row-owners : (m : ℕ) → m < length s → Row owner value S m → has t m ≡ true
  row-owners m l r =
      subst (λ (x : ℕ). has t x ≡ true) r.named
      (o.new r.row r.there (looked-has S value r.row (omega (arith, lengths, r.there)) ∙ r.holds) (subst (λ (x : ℕ). x < length s) (sym r.named) l))

-- nothing is in where no mark is counted
pub ones_none : (s : List ℕ) → ones s ≡ 0 → (m : ℕ) → has s m ≡ true → ⊥
ones_none [] n m e = false≢true e
ones_none (zero ∷ s) n zero e = false≢true e
ones_none (zero ∷ s) n (suc m) e = ones_none s n m e
ones_none (suc x ∷ s) n m e = omega arith
