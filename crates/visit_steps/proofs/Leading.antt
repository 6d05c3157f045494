-- What the rows of a place lead to, read from its part of the column.
-- Assumes nothing.
use Rattle.std.specs.Prelude.{◌≡◌, ℕ, zero, suc, ◌+◌, ◌-◌, ◌<◌, ◌≤◌, List, [], ◌∷◌, ◌++◌, length, get_or, take, drop}
use mathlib.Core.Path.{refl, sym, ap, ◌∙◌}
use mathlib.Core.Logic.{⊎_elim}
use mathlib.Core.List.{flat_map}
use native.Mathlib.Omega.{arith}
use lib.ListN.{length-drop}
use lib.Seq.{get_or-take, get_or-drop, length-take-le, drop-cons}
use borrow.Author.Tests.{eq-eqb, ne_eqb}
use Rattle.lists.specs.Words.{count_from}
use Rattle.tables.specs.Project.{missing}
use Rattle.tables.specs.Accepted.{BelowOrMissing}
use Rattle.visit_steps.specs.inner.Steps.{named, leads, part}

-- a row that names a place, and one that names none
pub named_some : (column : List ℕ) (row : ℕ) → (get_or column row 0 ≡ missing → ⊥) → named column row ≡ get_or column row 0 ∷ []
named_some column row n = rw (ne_eqb (get_or column row 0) missing n)

pub named_none : (column : List ℕ) (row : ℕ) → get_or column row 0 ≡ missing → named column row ≡ []
named_none column row e = rw (eq-eqb (get_or column row 0) missing e)

shift : (f : ℕ → List ℕ) (i n : ℕ) → flat_map f (count_from (suc i) n) ≡ flat_map (λ (k : ℕ). f (suc k)) (count_from i n)
unfolding flat_map
shift f i zero = refl
shift f i (suc n) = ap (λ (l : List ℕ). f (suc i) ++ l) (shift f (suc i) n)

-- what a run of rows names is what its part of the column names
run-named : (column : List ℕ) (start n : ℕ) → start + n ≤ length column
    → flat_map (named column) (count_from start n) ≡ flat_map (named (take n (drop start column))) (count_from 0 n)
unfolding flat_map
run-named column start zero h = refl
run-named column start (suc n) h =
    let x = get_or column start 0 in
    let rest = take n (drop (suc start) column) in
    let split : take (suc n) (drop start column) ≡ x ∷ rest = ap (λ (l : List ℕ). take (suc n) l) (drop-cons column start 0 (omega arith)) in
    ap (λ (l : List ℕ). named column start ++ l) (run-named column (suc start) n (omega arith) ∙ sym (shift (named (x ∷ rest)) 0 n))
    ∙ ap (λ (l : List ℕ). flat_map (named l) (count_from 0 (suc n))) (sym split)

module _ (starts column : List ℕ) (m : ℕ) (ordered : get_or starts m 0 ≤ get_or starts (m + 1) 0) (within : get_or starts (m + 1) 0 ≤ length column) where
  abbrev size : ℕ
  size = get_or starts (m + 1) 0 - get_or starts m 0

  part-length : length (part starts column m) ≡ size
  part-length = length-take-le size (drop (get_or starts m 0) column) (omega (arith, length-drop (get_or starts m 0) column))

  pub leads-part : leads starts column m ≡ flat_map (named (part starts column m)) (count_from 0 (length (part starts column m) - 0))
  unfolding leads
  leads-part =
      run-named column (get_or starts m 0) size (omega arith)
      ∙ ap (λ (n : ℕ). flat_map (named (part starts column m)) (count_from 0 n)) {x = size} {y = length (part starts column m) - 0} (omega (arith, part-length))

  -- a part of a column keeps the column's bound
  part-at : (i : ℕ) → i < length (part starts column m) → get_or (part starts column m) i 0 ≡ get_or column (get_or starts m 0 + i) 0
  part-at i l = get_or-take size (drop (get_or starts m 0) column) i 0 (omega (arith, part-length)) ∙ get_or-drop (get_or starts m 0) column i 0

  pub part-named : (n i : ℕ) → BelowOrMissing n column → i < length (part starts column m) → (get_or (part starts column m) i 0 ≡ missing → ⊥) → get_or (part starts column m) i 0 < n
  part-named n i b l o =
      ⊎_elim
      (λ h. omega (arith, part-at i l))
      (λ h. absurd (o (part-at i l ∙ h)))
      (b (get_or starts m 0 + i) (omega (arith, part-length)))
