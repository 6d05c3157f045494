-- The rows of an owner in a rising column are those from its first row to the next owner's first.
-- Assumes nothing.
use Rattle.std.specs.Prelude.{◌≡◌, ℕ, zero, suc, ◌+◌, ◌-◌, ◌<◌, ◌≤◌, Bool, eqb, List, [], ◌∷◌, ◌++◌, map, length, get_or, take, drop}
use mathlib.Core.Path.{refl, sym, ap, ◌∙◌}
use mathlib.Core.List.{append-nil, flat_map}
use native.Mathlib.Nat.{zero-add}
use native.Mathlib.Decide.{dec_le}
use native.Mathlib.Omega.{arith}
use lib.Seq.{drop-cons}
use borrow.Author.Tests.{eq-eqb, ne_eqb}
use Rattle.lists.specs.Words.{count_from, keep}
use Rattle.lists.proofs.Laws.{count_from-append, mem-count_from, keep_append, keep-none, keep_all, count-step, count-end}
use Rattle.tables.specs.declared.Target.{Target}
use Rattle.tables.specs.Lookups.{FirstRow}
use Rattle.tables.specs.Readings.{rows_of, row_targets, targets_of, values_of}

module _ {A : Type 0} (f : ℕ → List A) (row end : ℕ) where
  -- what a run of rows gives, by its first row
  pub flat_step : row < end → flat_map f (count_from row (end - row)) ≡ f row ++ flat_map f (count_from (row + 1) (end - (row + 1)))
  unfolding flat_map
  flat_step h = ap (flat_map f) (count-step row end h)

  -- what no rows give
  pub flat-end : end ≤ row → flat_map f (count_from row (end - row)) ≡ []
  unfolding flat_map
  flat-end h = ap (flat_map f) (count-end row end h)

-- a part of a column is its values at a run of rows
part-run : (xs : List ℕ) (start n : ℕ) → start + n ≤ length xs → take n (drop start xs) ≡ map (λ (row : ℕ). get_or xs row 0) (count_from start n)
part-run xs start zero h = refl
part-run xs start (suc n) h =
    rw (drop-cons xs start 0 (omega arith)) (ap (λ (l : List ℕ). get_or xs start 0 ∷ l) (part-run xs (suc start) n (omega arith)))

-- m's rows start at `start`, the next owner's at `end`
module _ (owner : List ℕ) (m start end : ℕ) (first : FirstRow owner m start) (next : FirstRow owner (m + 1) end) where
  pub run-ordered : start ≤ end
  run-ordered = go (dec_le start end)
    where
      go : Dec (start ≤ end) → start ≤ end
      go (yes h) = h
      go (no n) = absurd (omega (arith, first.below end (omega arith), next.above end (omega arith) (omega (arith, first.within))))

  pub rows-of-run : rows_of owner m ≡ count_from start (end - start)
  unfolding rows_of
  rows-of-run =
      let mine : ℕ → Bool = λ (row : ℕ). eqb (get_or owner row 0) m in
      let rest : ℕ = length owner - end in
      let n : length owner ≡ start + ((end - start) + rest) = omega (arith, run-ordered, next.within) in
      let before : keep mine (count_from 0 start) ≡ [] =
      keep-none mine (count_from 0 start) (λ j r. let b = mem-count_from 0 start r in ne_eqb (get_or owner j 0) m (λ e. omega (arith, first.below j (omega arith)))) in
      let within : keep mine (count_from start (end - start)) ≡ count_from start (end - start) =
      keep_all mine (count_from start (end - start)) (λ j r. let b = mem-count_from start (end - start) r in eq-eqb (get_or owner j 0) m (omega (arith, run-ordered, first.above j b.0 (omega (arith, run-ordered, next.within)), next.below j (omega (arith, run-ordered))))) in
      let after : keep mine (count_from (start + (end - start)) rest) ≡ [] =
      keep-none mine (count_from (start + (end - start)) rest) (λ j r. let b = mem-count_from (start + (end - start)) rest r in ne_eqb (get_or owner j 0) m (λ e. omega (arith, run-ordered, next.above j (omega (arith, run-ordered)) (omega (arith, run-ordered, next.within))))) in
      ap (λ (k : ℕ). keep mine (count_from 0 k)) n
      ∙ ap (keep mine) (count_from-append 0 start ((end - start) + rest))
      ∙ keep_append mine (count_from 0 start) (count_from (0 + start) ((end - start) + rest))
      ∙ ap (λ (l : List ℕ). l ++ keep mine (count_from (0 + start) ((end - start) + rest))) before
      ∙ ap (λ (k : ℕ). keep mine (count_from k ((end - start) + rest))) (zero-add start)
      ∙ ap (keep mine) (count_from-append start (end - start) rest)
      ∙ keep_append mine (count_from start (end - start)) (count_from (start + (end - start)) rest)
      ∙ ap (λ (l : List ℕ). keep mine (count_from start (end - start)) ++ l) after
      ∙ append-nil (keep mine (count_from start (end - start)))
      ∙ within

  pub targets-of-run : (kinds : ℕ → Bool) (which : Target → List ℕ) (normal kind target : List ℕ)
      → targets_of kinds which normal owner kind target m ≡ flat_map (row_targets kinds which normal kind target) (count_from start (end - start))
  unfolding targets_of
  targets-of-run kinds which normal kind target = ap (flat_map (row_targets kinds which normal kind target)) rows-of-run

  pub values-of-run : (column : List ℕ) → values_of owner column m ≡ map (λ (row : ℕ). get_or column row 0) (count_from start (end - start))
  unfolding values_of
  values-of-run column = ap (map (λ (row : ℕ). get_or column row 0)) rows-of-run

  pub values-part : (column : List ℕ) → length column ≡ length owner → take (end - start) (drop start column) ≡ values_of owner column m
  values-part column e =
      part-run column start (end - start) (omega (arith, run-ordered, next.within)) ∙ sym (values-of-run column)
