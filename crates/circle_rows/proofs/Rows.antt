-- The pass over the rows: of the rows before one, those of each module lead to its targets once, and `seen` tells them.
-- Assumes nothing.
use Rattle.std.specs.Prelude.{◌≡◌, ℕ, zero, suc, ◌+◌, ◌<◌, ◌≤◌, Bool, true, false, cond, not, ◌||◌, eqb, ◌⊎◌, List, [], ◌∷◌, ◌++◌, length, get_or, set, replicate, ◌≢◌}
use mathlib.Core.Path.{refl, sym, ap, subst, ◌∙◌}
use mathlib.Core.Logic.{inl, inr, ⊎_elim}
use mathlib.Core.Bool.{false≢true}
use mathlib.Core.List.Memᴰ
use mathlib.Core.List.{foldl, flat_map, append-nil, Memᴰ}
use native.Mathlib.Nat.{zero-add}
use native.Mathlib.Decide.{ℕ_discrete}
use native.Mathlib.Omega.{arith}
use lib.ListN.{length-set, length-replicate}
use lib.Seq.{get_or-set_same, get_or-set_other, set-get_or}
use borrow.Author.Tests.{eq-eqb, eqb-true, ne_eqb}
use Rattle.lists.specs.Words.{elem, keep, up_to}
use Rattle.lists.proofs.Laws.{both, iff-eq, elem_mem, mem-elem, mem-keep, keep-mem, mem-up_to, up_to-mem, count_from-append, keep_append, keep-cong}
use Rattle.lists.proofs.Members.{mem-flat, flat-mem}
use Rattle.lists.proofs.Maps.{flat-one, flat-cong, flat_append}
use Rattle.tables.specs.Project.{missing}
use Rattle.tables.specs.Lookups.{Rising}
use Rattle.tables.specs.Readings.{rows_of}
use Rattle.tables.specs.Refusal.{module_limit}
use Rattle.sort_steps.specs.Steps.{unless_missing}
use Rattle.sort_steps.proofs.Rows.{unless-one}
use Rattle.circle_search.specs.inner.Search.{once_after, once}
use Rattle.circle_rows.specs.Rows.{led_row, Led, LedOnce}

-- a place that is set to what it holds
pub set_same : (s : List ℕ) (k v : ℕ) → get_or s k 0 ≡ v → set s k v ≡ s
set_same s k v e = ap (set s k) (sym e) ∙ set-get_or s k 0

-- a row that leads to a module which no earlier row of this importer led to
pub led_new : (targets seen : List ℕ) (by t : ℕ) → targets ≡ t ∷ [] → length seen ≤ module_limit → t < length seen → get_or seen t 0 ≢ by + 1 → Led targets by seen t (set seen t (by + 1))
led_new targets seen by t e few l n =
    rw e
    (record {
      leads = unless-one t (ne_eqb t missing (λ q. omega (arith, l, few, q))) ∙ sym (rw (ne_eqb (get_or seen t 0) (by + 1) n) refl);
      marks = refl;
      within = inl l;
      few = omega arith;
      inside = λ y h. omega (arith, l, Memᴰ.eq_of_singleton h);
    })

-- one more at the end, the first time
once_after_lem : (seen xs : List ℕ) (t : ℕ) → once_after seen (xs ++ (t ∷ [])) ≡ once_after seen xs ++ cond (elem t seen || elem t xs) [] (t ∷ [])
once_after_lem seen [] t = ⊎_elim (λ e. rw e) (λ e. rw e) (both (elem t seen))
once_after_lem seen (x ∷ xs) t =
    ⊎_elim
    (λ e. rw e (once_after_lem seen xs t ∙ ap (λ (b : Bool). once_after seen xs ++ cond b [] (t ∷ [])) (sym (inside e))))
    (λ e. rw e (ap (λ (l : List ℕ). x ∷ l) (once_after_lem (x ∷ seen) xs t) ∙ ap (λ (b : Bool). x ∷ (once_after (x ∷ seen) xs ++ cond b [] (t ∷ []))) (swap (eqb t x) (elem t seen) (elem t xs))))
    (both (elem x seen))
  where
    swap : (a b c : Bool) → (cond a true b || c) ≡ (b || cond a true c)
    swap true true c = refl
    swap true false c = refl
    swap false true c = refl
    swap false false c = refl

    drop-out : (a b c : Bool) → (a ≡ true → b ≡ true) → (b || cond a true c) ≡ (b || c)
    drop-out true true c h = refl
    drop-out true false c h = absurd (false≢true (h refl))
    drop-out false b c h = refl

    inside : elem x seen ≡ true → (elem t seen || cond (eqb t x) true (elem t xs)) ≡ (elem t seen || elem t xs)
    inside e = drop-out (eqb t x) (elem t seen) (elem t xs) (λ q. ap (λ (v : ℕ). elem v seen) (eqb-true t x q) ∙ e)

pub once-one : (xs : List ℕ) (t : ℕ) → once (xs ++ (t ∷ [])) ≡ once xs ++ cond (elem t xs) [] (t ∷ [])
once-one xs t = once_after_lem [] xs t

module _ (record_module : List ℕ) (targets : ℕ → List ℕ) (n : ℕ) where
  -- the rows of m before a row
  abbrev rows_before : ℕ → ℕ → List ℕ
  rows_before m row = keep (λ (r : ℕ). eqb (get_or record_module r 0) m) (up_to row)

  abbrev targets_before : ℕ → ℕ → List ℕ
  targets_before m row = flat_map targets (rows_before m row)

  -- of the rows before one: those of each module lead to its targets once, `seen` has the last module that led to each, and they lead to modules
  pub record Pass (row : ℕ) (seen leads : List ℕ) : Type 0 where
    pub len : length seen ≡ n
    pub once : (m : ℕ) → flat_map (led_row leads) (rows_before m row) ≡ once (targets_before m row)
    pub last : (m t : ℕ) → get_or seen t 0 ≡ m + 1 → Memᴰ t (targets_before m row)
    pub above : (m t : ℕ) → Memᴰ t (targets_before m row) → m + 1 ≤ get_or seen t 0
    pub within : (i : ℕ) → i < row → (get_or leads i 0 < n) ⊎ (get_or leads i 0 ≡ missing)

  pub pass-start : (leads : List ℕ) → Pass 0 (replicate n 0) leads
  unfolding flat_map
  pass-start leads = record {
    len = length-replicate n 0;
    once = λ m. refl;
    last = λ m t e. absurd (zero-not m t e);
    above = λ m t h. absurd (Memᴰ.not-nil h);
    within = λ i h. absurd (omega arith);
  }
    where
      nil : (k t : ℕ) → get_or {A = ℕ} (replicate k 0) t 0 ≡ 0
      nil zero t = refl
      nil (suc k) zero = refl
      nil (suc k) (suc t) = nil k t

      zero-not : (m t : ℕ) → get_or {A = ℕ} (replicate n 0) t 0 ≡ m + 1 → ⊥
      zero-not m t e = omega (arith, e, nil n t)

  row_more : (m row : ℕ) → rows_before m (row + 1) ≡ rows_before m row ++ cond (eqb (get_or record_module row 0) m) (row ∷ []) []
  row_more m row = ap (keep (λ (r : ℕ). eqb (get_or record_module r 0) m)) (count_from-append 0 row 1 ∙ ap (λ (k : ℕ). up_to row ++ (k ∷ [])) (zero-add row)) ∙ keep_append (λ (r : ℕ). eqb (get_or record_module r 0) m) (up_to row) (row ∷ [])

  module _ (rising : Rising record_module) {row : ℕ} {seen leads : List ℕ} (p : Pass row seen leads) (inside : row < length record_module) where
    abbrev by : ℕ
    by = get_or record_module row 0

    -- a target is marked as seen from this importer exactly if an earlier row of it leads there
    seen-before : (t : ℕ) → eqb (get_or seen t 0) (by + 1) ≡ elem t (targets_before by row)
    unfolding Rising
    seen-before t =
        iff-eq (eqb (get_or seen t 0) (by + 1)) (elem t (targets_before by row))
        (λ e. mem-elem t (targets_before by row) (p.last by t (eqb-true (get_or seen t 0) (by + 1) e)))
        (λ e. eq-eqb (get_or seen t 0) (by + 1) (equal (p.above by t (elem_mem t (targets_before by row) e)) (get_or seen t 0) refl))
      where
        equal : by + 1 ≤ get_or seen t 0 → (v : ℕ) → get_or seen t 0 ≡ v → get_or seen t 0 ≡ by + 1
        equal l zero q = omega (arith, l, q)
        equal l (suc v) q =
            let h = mem-flat targets (rows_before v row) (p.last v t (omega (arith, q))) in
            let k = mem-keep (λ (r : ℕ). eqb (get_or record_module r 0) v) (up_to row) h.1 in
            omega (arith, l, q, eqb-true (get_or record_module h.0 0) v k.1, rising h.0 row (omega (arith, mem-up_to {n = row} k.0)) inside)

    -- a target of the rows before the next: of those before, or of this one
    before_more : (m t : ℕ) → Memᴰ t (targets_before m (row + 1)) → Memᴰ t (targets_before m row) ⊎ ((by ≡ m) × Memᴰ t (targets row))
    before_more m t h =
        let a = mem-flat targets (rows_before m (row + 1)) h in
        let k = mem-keep (λ (r : ℕ). eqb (get_or record_module r 0) m) (up_to (row + 1)) a.1 in
        go a.0 (ℕ_discrete a.0 row) (mem-up_to {n = row + 1} k.0) k.1 a.2
      where
        go : (r : ℕ) → Dec (r ≡ row) → r < row + 1 → eqb (get_or record_module r 0) m ≡ true → Memᴰ t (targets r) → Memᴰ t (targets_before m row) ⊎ ((by ≡ m) × Memᴰ t (targets row))
        go r (yes q) l e j = inr (ap (λ (v : ℕ). get_or record_module v 0) (sym q) ∙ eqb-true (get_or record_module r 0) m e, subst (λ (v : ℕ). Memᴰ t (targets v)) q j)
        go r (no q) l e j = inl (flat-mem targets (rows_before m row) (keep-mem (λ (v : ℕ). eqb (get_or record_module v 0) m) (up_to row) (up_to-mem {n = row} (omega arith)) e) j)

    more-before : (m t : ℕ) → Memᴰ t (targets_before m row) → Memᴰ t (targets_before m (row + 1))
    more-before m t h =
        let a = mem-flat targets (rows_before m row) h in
        let k = mem-keep (λ (r : ℕ). eqb (get_or record_module r 0) m) (up_to row) a.1 in
        flat-mem targets (rows_before m (row + 1)) (keep-mem (λ (v : ℕ). eqb (get_or record_module v 0) m) (up_to (row + 1)) (up_to-mem {n = row + 1} (let l = mem-up_to {n = row} k.0 in omega arith)) k.1) a.2

    this-before : (t : ℕ) → Memᴰ t (targets row) → Memᴰ t (targets_before by (row + 1))
    this-before t h = flat-mem targets (rows_before by (row + 1)) (keep-mem (λ (v : ℕ). eqb (get_or record_module v 0) by) (up_to (row + 1)) (up_to-mem {n = row + 1} (omega arith)) (eq-eqb by by refl)) h

    -- no earlier row is of a later module
    earlier : (m t : ℕ) → Memᴰ t (targets_before m row) → m ≤ by
    unfolding Rising
    earlier m t h =
        let a = mem-flat targets (rows_before m row) h in
        let k = mem-keep (λ (r : ℕ). eqb (get_or record_module r 0) m) (up_to row) a.1 in
        let l = mem-up_to {n = row} k.0 in
        omega (arith, eqb-true (get_or record_module a.0 0) m k.1, rising a.0 row (omega arith) inside)

    module _ {r : ℕ} {seen' : List ℕ} (led : Led (targets row) by seen r seen') (room : row < length leads) where
      column : List ℕ
      column = set leads row r

      old-rows : (m : ℕ) → flat_map (led_row (set leads row r)) (rows_before m row) ≡ once (targets_before m row)
      old-rows m =
          flat-cong (led_row (set leads row r)) (led_row leads) (rows_before m row)
          (λ i h. ap unless_missing (get_or-set_other leads row i r 0 (let l = mem-up_to {n = row} (mem-keep (λ (v : ℕ). eqb (get_or record_module v 0) m) (up_to row) h).0 in λ q. omega arith)))
          ∙ p.once m

      this-row : led_row (set leads row r) row ≡ keep (λ (t : ℕ). not (elem t (targets_before by row))) (targets row)
      this-row =
          ap unless_missing (get_or-set_same leads row r 0 room) ∙ led.leads
          ∙ keep-cong (λ (t : ℕ). not (eqb (get_or seen t 0) (by + 1))) (λ (t : ℕ). not (elem t (targets_before by row))) (targets row) (λ t h. ap not (seen-before t))

      once_more : (xs ts : List ℕ) → length ts ≤ 1 → once xs ++ keep (λ (t : ℕ). not (elem t xs)) ts ≡ once (xs ++ ts)
      once_more xs [] l = append-nil (once xs) ∙ ap once (sym (append-nil xs))
      once_more xs (t ∷ []) l = ap (λ (k : List ℕ). once xs ++ k) (turned (elem t xs)) ∙ sym (once-one xs t)
        where
          turned : (b : Bool) → cond (not b) (t ∷ []) [] ≡ cond b [] (t ∷ [])
          turned true = refl
          turned false = refl
      once_more xs (t ∷ u ∷ ts) l = absurd (omega arith)

      rows-once : (m : ℕ) → flat_map (led_row (set leads row r)) (rows_before m (row + 1)) ≡ once (targets_before m (row + 1))
      rows-once m =
          ⊎_elim
          (λ e.
          let q : rows_before m (row + 1) ≡ rows_before m row ++ (row ∷ []) = row_more m row ∙ ap (λ (b : Bool). rows_before m row ++ cond b (row ∷ []) []) e in
          let same = eqb-true by m e in
          ap (flat_map (led_row (set leads row r))) q
          ∙ flat_append (led_row (set leads row r)) (rows_before m row) (row ∷ [])
          ∙ ap (λ (k : List ℕ). k ++ flat_map (led_row (set leads row r)) (row ∷ [])) (old-rows m)
          ∙ ap (λ (k : List ℕ). once (targets_before m row) ++ k) (flat-one (led_row (set leads row r)) row ∙ this-row ∙ ap (λ (b : ℕ). keep (λ (t : ℕ). not (elem t (targets_before b row))) (targets row)) same)
          ∙ once_more (targets_before m row) (targets row) led.few
          ∙ ap once (sym (ap (flat_map targets) q ∙ flat_append targets (rows_before m row) (row ∷ []) ∙ ap (λ (k : List ℕ). targets_before m row ++ k) (flat-one targets row))))
          (λ e.
          let q : rows_before m (row + 1) ≡ rows_before m row = row_more m row ∙ ap (λ (b : Bool). rows_before m row ++ cond b (row ∷ []) []) e ∙ append-nil (rows_before m row) in
          ap (flat_map (led_row (set leads row r))) q ∙ old-rows m ∙ ap (λ (k : List ℕ). once (flat_map targets k)) (sym q))
          (both (eqb by m))

      -- what is seen after this row
      seen_at : (t : ℕ) → ((get_or seen' t 0 ≡ by + 1) × Memᴰ t (targets row)) ⊎ ((get_or seen' t 0 ≡ get_or seen t 0) × (Memᴰ t (targets row) → ⊥))
      seen_at t = go (targets row) led.few led.inside led.marks
        where
          go : (ts : List ℕ) → length ts ≤ 1 → ((x : ℕ) → Memᴰ x ts → x < length seen) → seen' ≡ foldl (λ (s : List ℕ) (x : ℕ). set s x (by + 1)) seen ts
              → ((get_or seen' t 0 ≡ by + 1) × Memᴰ t ts) ⊎ ((get_or seen' t 0 ≡ get_or seen t 0) × (Memᴰ t ts → ⊥))
          go [] l i e = inr (ap (λ (s : List ℕ). get_or s t 0) e, λ h. Memᴰ.not-nil h)
          go (x ∷ []) l i e = at (ℕ_discrete t x)
            where
              at : Dec (t ≡ x) → ((get_or seen' t 0 ≡ by + 1) × Memᴰ t (x ∷ [])) ⊎ ((get_or seen' t 0 ≡ get_or seen t 0) × (Memᴰ t (x ∷ []) → ⊥))
              at (yes q) = inl (ap (λ (s : List ℕ). get_or s t 0) e ∙ ap (λ (v : ℕ). get_or (set seen x (by + 1)) v 0) q ∙ get_or-set_same seen x (by + 1) 0 (i x (Memᴰ.head refl)), Memᴰ.head q)
              at (no q) = inr (ap (λ (s : List ℕ). get_or s t 0) e ∙ get_or-set_other seen x t (by + 1) 0 q, λ h. q (Memᴰ.eq_of_singleton h))
          go (x ∷ y ∷ ts) l i e = absurd (omega arith)

      seen-length : length seen' ≡ length seen
      seen-length = go (targets row) seen led.marks
        where
          go : (ts s : List ℕ) → {s' : List ℕ} → s' ≡ foldl (λ (s : List ℕ) (x : ℕ). set s x (by + 1)) s ts → length s' ≡ length s
          go [] s e = ap length e
          go (x ∷ ts) s e = go ts (set s x (by + 1)) e ∙ length-set s x (by + 1)

      pub pass-next : Pass (row + 1) seen' (set leads row r)
      pass-next = record {
        len = seen-length ∙ p.len;
        once = rows-once;
        last = λ m t e.
            ⊎_elim (λ c. subst (λ (v : ℕ). Memᴰ t (targets_before v (row + 1))) (let z = c.0 in omega arith) (this-before t c.1)) (λ c. more-before m t (p.last m t (sym c.0 ∙ e))) (seen_at t);
        above = λ m t h.
            ⊎_elim
            (λ c. ⊎_elim (λ z. omega (arith, z.0, earlier m t c)) (λ z. omega (arith, z.0, p.above m t c)) (seen_at t))
            (λ c. ⊎_elim (λ z. omega (arith, z.0, c.0)) (λ z. absurd (z.1 c.1)) (seen_at t))
            (before_more m t h);
        within = λ i h. go i h (ℕ_discrete i row);
      }
        where
          go : (i : ℕ) → i < row + 1 → Dec (i ≡ row) → (get_or (set leads row r) i 0 < n) ⊎ (get_or (set leads row r) i 0 ≡ missing)
          go i h (yes q) =
              let z : get_or (set leads row r) i 0 ≡ r = ap (λ (v : ℕ). get_or (set leads row r) v 0) q ∙ get_or-set_same leads row r 0 room in
              ⊎_elim (λ c. inl (omega (arith, z, c, p.len))) (λ c. inr (z ∙ c)) led.within
          go i h (no q) =
              let z : get_or (set leads row r) i 0 ≡ get_or leads i 0 = get_or-set_other leads row i r 0 q in
              ⊎_elim (λ c. inl (omega (arith, z, c))) (λ c. inr (z ∙ c)) (p.within i (omega arith))

  -- past the last row
  pub pass-end : {seen leads : List ℕ} (row : ℕ) → row ≡ length record_module → length leads ≡ length record_module → Pass row seen leads → LedOnce record_module (λ (m : ℕ). flat_map targets (rows_of record_module m)) n leads
  unfolding rows_of
  pass-end {leads = leads} row e l p = record {
    leads = λ m. subst (λ (k : ℕ). flat_map (led_row leads) (rows_before m k) ≡ once (targets_before m k)) e (p.once m);
    within = λ i h. p.within i (omega arith);
  }
