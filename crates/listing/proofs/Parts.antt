-- The columns of a project, one after the other and by their bounds, are a table of it.
-- Assumes nothing.
use Rattle.std.specs.Prelude.{◌≡◌, ℕ, zero, suc, ◌+◌, ◌-◌, ◌<◌, ◌≤◌, Bool, true, ◌&&◌, List, [], ◌∷◌, ◌++◌, map, length, get_or, take}
use native.Mathlib.Omega.{arith}
use native.Mathlib.Nat.{add-zero}
use mathlib.Core.Path.{refl, sym, ap, ap₂, ◌∙◌}
use mathlib.Core.List.{append_assoc, append-nil, flatten}
use lib.ListN.{length-append}
use lib.Seq.{drop_at, take-append_seam}
use borrow.Author.Tests.{eq-eqb, le-leb}
use Rattle.lists.specs.Words.{up_to}
use Rattle.lists.proofs.Maps.{map-up_to-cong, map-up_to-self}
use Rattle.tables.specs.Project.{Project, project}
use Rattle.tables.specs.Refusal.{rises}
use Rattle.table.specs.Table.{part, column_at, table, bounds_fit}
use Rattle.table.proofs.Laws.{column-part}
use Rattle.listing.specs.Reading.{columns_of, values_of, bounds_of, tails}
use Rattle.listing.proofs.Cuts.{tails-length}

-- by bounds behind another, the columns are those by the bounds
shift : (x : ℕ) (bounds columns : List ℕ) (j : ℕ) → column_at (x ∷ bounds) columns (suc j) ≡ column_at bounds columns j
unfolding column_at
shift x bounds columns j = ap (λ (n : ℕ). part columns (get_or bounds j 0) (get_or (x ∷ bounds) n 0)) {x = suc j + 1} {y = suc (j + 1)} (omega arith)

-- the j-th of columns that stand one after the other behind `pre`
column-of : (cs : List (List ℕ)) (at : ℕ) (pre post : List ℕ) (j : ℕ) → at ≡ length pre → j < length cs
    → column_at (at ∷ tails at cs) (pre ++ (flatten cs ++ post)) j ≡ get_or cs j []
unfolding tails flatten
column-of [] at pre post j e h = absurd (omega arith)
column-of (c ∷ cs) at pre post zero e h =
    let all : List ℕ = pre ++ ((c ++ flatten cs) ++ post) in
    let room : at + length c ≤ length all =
    omega (arith, e, length-append pre ((c ++ flatten cs) ++ post), length-append (c ++ flatten cs) post, length-append c (flatten cs)) in
    sym (column-part (at ∷ (at + length c) ∷ tails (at + length c) cs) all 0 at (at + length c) refl refl (omega arith) room)
    ∙ ap₂ (λ (n : ℕ) (r : List ℕ). take n r) {x = at + length c - at} {y = length c} (omega arith)
    (drop_at pre ((c ++ flatten cs) ++ post) at (sym e) ∙ append_assoc c (flatten cs) post)
    ∙ take-append_seam c (flatten cs ++ post)
column-of (c ∷ cs) at pre post (suc j) e h =
    shift at ((at + length c) ∷ tails (at + length c) cs) (pre ++ ((c ++ flatten cs) ++ post)) j
    ∙ ap (λ (v : List ℕ). column_at ((at + length c) ∷ tails (at + length c) cs) v j)
    (ap (λ (r : List ℕ). pre ++ r) (append_assoc c (flatten cs) post) ∙ sym (append_assoc pre c (flatten cs ++ post)))
    ∙ column-of cs (at + length c) (pre ++ c) post j (omega (arith, length-append pre c, e)) (omega arith)

-- the project of these columns
abbrev project_with : ℕ → ℕ → List (List ℕ) → Project
project_with runtime dynamic cs =
    project runtime dynamic
    (at 0) (at 1) (at 2) (at 3) (at 4) (at 5) (at 6) (at 7) (at 8) (at 9) (at 10)
    (at 11) (at 12) (at 13) (at 14) (at 15) (at 16) (at 17) (at 18) (at 19) (at 20) (at 21)
    (at 22) (at 23) (at 24) (at 25) (at 26) (at 27) (at 28) (at 29) (at 30) (at 31) (at 32) (at 33)
  where
    at : ℕ → List ℕ
    at k = get_or cs k []

-- the columns of a project, by their bounds, are a table of it
module _ (p : Project) where
  columns_of_lem : map (column_at (bounds_of p) (values_of p)) (up_to 34) ≡ columns_of p
  unfolding flatten
  columns_of_lem =
      map-up_to-cong (column_at (bounds_of p) (values_of p)) (λ (k : ℕ). get_or (columns_of p) k []) 34
      (λ k h. ap (λ (v : List ℕ). column_at (bounds_of p) v k) (sym (append-nil (values_of p))) ∙ column-of (columns_of p) 0 [] [] k refl h)
      ∙ map-up_to-self [] (columns_of p)

  pub table_of : table p.runtime p.dynamic (bounds_of p) (values_of p) ≡ p
  unfolding table flatten
  table_of = ap (project_with p.runtime p.dynamic) columns_of_lem

-- bounds rise to the last
rises-tails : (at : ℕ) (cs : List (List ℕ)) → rises (at ∷ tails at cs) ≡ true
unfolding rises tails
rises-tails at [] = refl
rises-tails at (c ∷ cs) = ap₂ ◌&&◌ (le-leb at (at + length c) (omega arith)) (rises-tails (at + length c) cs)

last-tail : (at : ℕ) (cs : List (List ℕ)) → get_or (at ∷ tails at cs) (length cs) 0 ≡ at + length (flatten cs)
unfolding tails flatten
last-tail at [] = sym (add-zero at)
last-tail at (c ∷ cs) = last-tail (at + length c) cs ∙ omega (arith, length-append c (flatten cs))

pub bounds-fit : (p : Project) → bounds_fit (bounds_of p) (values_of p) ≡ true
unfolding bounds_fit flatten
bounds-fit p =
    ap₂ ◌&&◌ (eq-eqb (length (bounds_of p)) 35 (ap suc (tails-length 0 (columns_of p))))
    (ap₂ (λ (a b : Bool). a && b) (eq-eqb (get_or (bounds_of p) 34 0) (length (values_of p)) (last-tail 0 (columns_of p) ∙ omega arith)) (rises-tails 0 (columns_of p)))
