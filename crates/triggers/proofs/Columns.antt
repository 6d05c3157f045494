-- Cases of the two columns, and a column written place by place.
-- Assumes nothing.
use Rattle.std.specs.Prelude.{◌≡◌, ℕ, ◌<◌, ◌≤◌, List, map, length, get_or}
use mathlib.Core.Path.{sym, ◌∙◌}
use native.Mathlib.Omega.{arith}
use lib.Seq.{ext_get_or}
use borrow.Author.Tests.{eq-eqb, ne_eqb, lt-ltb, le-ltb}
use Rattle.std.proofs.lemmas.Bool.Decides.{nat_tests}
use Rattle.lists.specs.Words.{up_to}
use Rattle.lists.proofs.Laws.{get_d-map-up_to, length-map-up_to}
use Rattle.tables.specs.Project.{missing}
use Rattle.tables.specs.Readings.{resolved}
use Rattle.tables.specs.declared.Target.TheVariants.{Normal}
use Rattle.triggers.specs.inner.Columns.{way_of, row_trigger}

pub way-external : (normal included wrap : List ℕ) (m : ℕ) → (get_or normal m 0 ≡ 1 → ⊥) → way_of normal included wrap m ≡ 0
way-external normal included wrap m n = rw (ne_eqb (get_or normal m 0) 1 n)

-- no way is past 2
way-most : (normal included wrap : List ℕ) (m : ℕ) → way_of normal included wrap m ≤ 2
way-most normal included wrap m = grind (arith, nat_tests)

module _ (normal included wrap kind target : List ℕ) (row : ℕ) where
  -- another kind triggers nothing
  pub trigger_kind : 1 < get_or kind row 0 → missing ≡ row_trigger normal included wrap kind target row
  trigger_kind l = rw (le-ltb (get_or kind row 0) 2 (omega arith))

  -- kind 0 or 1 triggers a normal target that executes where it is triggered
  pub trigger-one : (t : ℕ) → get_or kind row 0 ≤ 1 → resolved normal target row ≡ Normal t → 2 ≤ way_of normal included wrap t → t ≡ row_trigger normal included wrap kind target row
  trigger-one t l e w = rw (lt-ltb (get_or kind row 0) 2 (omega arith), e, eq-eqb (way_of normal included wrap t) 2 (omega (arith, way-most normal included wrap t)))
