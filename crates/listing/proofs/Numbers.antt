-- The names of a text refuse no project: they are those of its modules, and few enough.
-- Assumes nothing.
use Rattle.std.specs.Prelude.{◌≡◌, ℕ, ◌≤◌, Bool, true, false, ◌||◌, leb, List, length, Option, None, Some}
use native.Mathlib.Omega.{arith}
use mathlib.Core.Path.{refl, sym, ◌∙◌}
use mathlib.Core.Logic.{⊎_elim}
use mathlib.Core.Bool.{true≢false}
use borrow.Author.Tests.{leb-true, le-leb}
use Rattle.lists.specs.Words.{is_zero}
use Rattle.lists.proofs.Laws.{both}
use Rattle.tables.specs.Project.{Project}
use Rattle.tables.specs.Readings.{modules}
use Rattle.tables.specs.Refusal.{module_limit, sized, sizes_fit, refusal}
use Rattle.tables.specs.declared.Refusal.{Refusal}
use Rattle.tables.specs.declared.Refusal.TheVariants.{ListSize, ColumnValue}
use Rattle.table.specs.Table.{tested_too}
use Rattle.names.specs.Names.{names_fit, names_in, line_ends, names_sized}
use Rattle.named_form.specs.NamedForm.{NameList, without, list, list_fits, lent_names}
use Rattle.name_list.proofs.Sections.{fit-lines}

-- tests that are passed refuse nothing
passed : (r : Option Refusal) → tested_too r true true ≡ r
passed None = refl
passed (Some x) = same x
  where
    same : (x : Refusal) → tested_too (Some x) true true ≡ Some x
    same ListSize = refl
    same ColumnValue = refl
    same x = refl

-- 1 stays 1
first : (one two : Bool) → tested_too (Some ListSize) one two ≡ Some ListSize
first one two = refl

module _ (p : Project) where
  many-modules : leb (modules p) module_limit ≡ false → sizes_fit p ≡ false
  unfolding sizes_fit sized
  many-modules e = rw e (⊎_elim (λ z. rw z) (λ z. rw z) (both (is_zero (modules p))))

  few-modules : sizes_fit p ≡ true → modules p ≤ 16384
  few-modules f =
      ⊎_elim (λ e. omega (arith, leb-true (modules p) module_limit e)) (λ e. absurd (true≢false (sym f ∙ many-modules e))) (both (leb (modules p) module_limit))

  module _ (s : List ℕ) (f : names_fit (modules p) s ≡ true) where
    in_list : names_in (modules p) s ≡ true
    unfolding names_in
    in_list = rw f (either (is_zero (length s)))
      where
        either : (b : Bool) → (b || true) ≡ true
        either true = refl
        either false = refl

    sized-list : sizes_fit p ≡ true → names_sized s ≡ true
    unfolding names_sized
    sized-list g = le-leb (line_ends s) 16384 (omega (arith, fit-lines (modules p) s f, few-modules g))

  unfit : sizes_fit p ≡ false → refusal p ≡ Some ListSize
  unfolding refusal
  unfit g = rw g

  -- of a text's project and list
  pub refusal_same : (l : NameList) → list_fits (modules p) l ≡ true
      → tested_too (refusal p) (names_sized (lent_names l)) (names_in (modules p) (lent_names l)) ≡ refusal p
  unfolding names_sized line_ends names_in
  refusal_same without f = passed (refusal p)
  refusal_same (list s) f =
      ⊎_elim
      (λ g. rw (sized-list s f g, in_list s f) (passed (refusal p)))
      (λ g. rw (unfit g) (first (names_sized s) (names_in (modules p) s)))
      (both (sizes_fit p))
