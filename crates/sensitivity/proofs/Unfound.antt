-- The search over a run of statements and over the uses of one, by what is left of them.
-- Assumes nothing.
use Rattle.std.specs.Prelude.{◌≡◌, ℕ, suc, ◌+◌, ◌-◌, ◌<◌, ◌≤◌, Bool, true, false, cond, ◌||◌, eqb, List, [], ◌∷◌, ◌++◌, map, length, get_or}
use mathlib.Core.Path.{refl, sym, ap, subst, ◌∙◌}
use mathlib.Core.List.{map-append, Memᴰ}
use native.Mathlib.Nat.{zero-add}
use native.Mathlib.Omega.{arith}
use borrow.Author.Tests.{eq-eqb, ne_eqb}
use Rattle.lists.specs.Words.{count_from, up_to, keep, any}
use Rattle.lists.proofs.Laws.{count-step, count-end, count_from-append, mem-count_from, keep_append, keep-none, any_append, mem-any}
use Rattle.tables.specs.Readings.{rows_of, values_of}
use Rattle.tables.proofs.OwnerRows.{row-values}
use Rattle.threads.specs.inner.Rows.{NextRow}
use Rattle.sensitivity.specs.Marks.{wakes, statement_wakes}

-- where a loop over the rows of m stands: at one of them, or at the end
pub record At (from : List ℕ) (m row : ℕ) : Type 0 where
  pub within : row ≤ length from
  pub mine : row < length from → get_or from row 0 ≡ m

at_next : {from : List ℕ} {m row r : ℕ} → NextRow from m row r → At from m r
at_next h = record { within = h.within; mine = h.found }

module _ (from to : List ℕ) (m : ℕ) where
  abbrev own : ℕ → Bool
  own row = eqb (get_or from row 0) m

  abbrev at : ℕ → ℕ
  at row = get_or to row 0

  -- the values of the rows of m before `row`
  abbrev pub passed : ℕ → List ℕ
  passed row = map at (keep own (up_to row))

  none-own : (first n : ℕ) → ((i : ℕ) → first ≤ i → i < first + n → get_or from i 0 ≡ m → ⊥) → keep own (count_from first n) ≡ []
  none-own first n k = keep-none own (count_from first n) (λ i h. let b = mem-count_from first n h in ne_eqb (get_or from i 0) m (k i b.0 b.1))

  -- none before the first
  passed_first : (r : ℕ) → NextRow from m 0 r → passed r ≡ []
  passed_first r h = ap (map at) (none-own 0 r (λ i a b. h.none i a (omega arith)))

  -- one more from a row to the next
  passed-next : (row r : ℕ) → get_or from row 0 ≡ m → NextRow from m (row + 1) r → passed r ≡ passed row ++ (get_or to row 0 ∷ [])
  passed-next row r e h =
      let rest : ℕ = r - (row + 1) in
      let n : r ≡ row + suc rest = omega (arith, h.after) in
      let s : suc row ≡ row + 1 = omega arith in
      let tail : keep own (count_from (suc row) rest) ≡ [] = none-own (suc row) rest (λ i a b. h.none i (omega arith) (omega (arith, h.after))) in
      let one : keep own (count_from row (suc rest)) ≡ row ∷ [] = rw (eq-eqb (get_or from row 0) m e, tail) in
      ap (λ (k : ℕ). map at (keep own (up_to k))) n
      ∙ ap (λ (l : List ℕ). map at (keep own l)) (count_from-append 0 row (suc rest))
      ∙ ap (map at) (keep_append own (up_to row) (count_from (0 + row) (suc rest)))
      ∙ ap (λ (k : ℕ). map at (keep own (up_to row) ++ keep own (count_from k (suc rest)))) (zero-add row)
      ∙ ap (λ (l : List ℕ). map at (keep own (up_to row) ++ l)) one
      ∙ map-append at (keep own (up_to row)) (row ∷ [])

  -- all at the end
  passed-all : (row : ℕ) → row ≡ length from → passed row ≡ values_of from to m
  unfolding values_of rows_of
  passed-all row e = ap (λ (k : ℕ). map at (keep own (up_to k))) e

  -- searching: none of the rows of m before `row` passes
  pub record Searching (f : ℕ → Bool) (row : ℕ) : Type 0 where
    pub none : any f (passed row) ≡ false
    pub place : At from m row

  module _ (f : ℕ → Bool) where
    -- the search starts at the first row of m
    pub searching-start : (r : ℕ) → NextRow from m 0 r → Searching f r
    searching-start r h = record { none = ap (any f) (passed_first r h); place = at_next h }

    module _ (row : ℕ) (g : Searching f row) where
      -- a row that doesn't pass leads to the next
      pub searching-next : (r : ℕ) → row < length from → f (get_or to row 0) ≡ false → NextRow from (get_or from row 0) (row + 1) r → Searching f r
      searching-next r l k h =
          let e = g.place.mine l in
          let h' : NextRow from m (row + 1) r = rw e at h in
          record {
            none = ap (any f) (passed-next row r e h') ∙ any_append f (passed row) (get_or to row 0 ∷ []) ∙ ap (λ (b : Bool). b || any f (get_or to row 0 ∷ [])) g.none ∙ ap (λ (b : Bool). cond b true false) k;
            place = at_next h';
          }

      searching-found : row < length from → f (get_or to row 0) ≡ true → true ≡ any f (values_of from to m)
      searching-found l k =
          sym (mem-any f (values_of from to m) (subst (λ (x : ℕ). Memᴰ (get_or to row 0) (values_of from to x)) (g.place.mine l) (row-values from to row l)) k)

      searching-end : length from ≤ row → false ≡ any f (values_of from to m)
      searching-end l = sym (sym (ap (any f) (passed-all row (omega (arith, g.place.within)))) ∙ g.none)

-- a run of rows, by its first
module _ (f : ℕ → Bool) (row end : ℕ) where
  any_step : row < end → any f (count_from row (end - row)) ≡ cond (f row) true (any f (count_from (row + 1) (end - (row + 1))))
  any_step h = ap (any f) (count-step row end h)

  any-hit : row < end → f row ≡ true → any f (count_from row (end - row)) ≡ true
  any-hit h e = any_step h ∙ rw e

  any-pass : row < end → f row ≡ false → any f (count_from row (end - row)) ≡ any f (count_from (row + 1) (end - (row + 1)))
  any-pass h e = any_step h ∙ rw e

  any-end : end ≤ row → any f (count_from row (end - row)) ≡ false
  any-end h = ap (any f) (count-end row end h)

-- the statements from `first` to s are passed, and none wakes
module _ (normal wrap record_kind record_target statement_included use_statement use_record : List ℕ) (first end : ℕ) where
  abbrev wakes_by : ℕ → Bool
  wakes_by = wakes normal wrap record_kind record_target

  abbrev asks : ℕ → Bool
  asks = statement_wakes normal wrap record_kind record_target statement_included use_statement use_record

  pub record Unfound (s : ℕ) : Type 0 where
    pub within : s ≤ end
    pub left : any asks (count_from s (end - s)) ≡ any asks (count_from first (end - first))

  -- none is passed at the first
  pub unfound_start : first ≤ end → Unfound first
  unfound_start h = record { within = h; left = refl }

  module _ (s : ℕ) (u : Unfound s) where
    -- at the end none is found
    pub unfound_end : end ≤ s → false ≡ any asks (count_from first (end - first))
    unfound_end h = sym (any-end asks s end h) ∙ u.left

    module _ (inside : s < end) where
      pass : asks s ≡ false → Unfound (s + 1)
      pass e = record { within = omega arith; left = sym (any-pass asks s end inside e) ∙ u.left }

      -- a statement that isn't included is passed
      pub unfound_excluded : (get_or statement_included s 0 ≡ 1 → ⊥) → Unfound (s + 1)
      unfound_excluded n = pass (rw (ne_eqb _ _ n))

      module _ (included : get_or statement_included s 0 ≡ 1) (row : ℕ) (g : Searching use_statement use_record s wakes_by row) where
        by_uses : asks s ≡ any wakes_by (values_of use_statement use_record s)
        by_uses = rw (eq-eqb _ _ included)

        -- and so is one that has no more uses
        pub unfound_unused : length use_statement ≤ row → Unfound (s + 1)
        unfound_unused h = pass (by_uses ∙ sym (searching-end use_statement use_record s wakes_by row g h))

        -- one that uses such a record is found
        pub unfound_hit : row < length use_statement → wakes_by (get_or use_record row 0) ≡ true → true ≡ any asks (count_from first (end - first))
        unfound_hit l k = sym (any-hit asks s end inside (by_uses ∙ sym (searching-found use_statement use_record s wakes_by row g l k))) ∙ u.left
