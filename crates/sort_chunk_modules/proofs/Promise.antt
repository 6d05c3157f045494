-- What the operation promises where its project is refused, and what is known of a table that is accepted.
-- Assumes nothing.
use Rattle.std.specs.Prelude.{◌≡◌, ℕ, true, ltb, List, length, Option, None, Some, Ok}
use Rattle.std.specs.Result.{result_err}
use mathlib.Core.Path.{refl, sym, ap}
use native.Mathlib.Omega.{arith}
use borrow.Author.Tests.{ltb-true}
use Rattle.tables.specs.Project.{Project}
use Rattle.tables.specs.Readings.{modules}
use Rattle.tables.specs.Accepted.{Accepted}
use Rattle.tables.specs.declared.Refusal.{Refusal}
use Rattle.tables.specs.Answers.{tested}
use Rattle.names.specs.Names.{names_fit}
use Rattle.table.specs.declared.Table.{Table}
use Rattle.table.specs.Table.{current}
use Rattle.table.specs.Lending.{as_lent, written}
use Rattle.table.proofs.Laws.{none-tested}
use Rattle.table.proofs.Lending.{names-fit, written-accepted}
use Rattle.arrangement.proofs.OfProject.{in-fit}
use Rattle.sort_chunk_modules.specs.Promise.{named_refusal}

-- a test's refusal is what refuses
pub err-tested : (r : Option Refusal) → result_err (tested r) ≡ r
err-tested None = refl
err-tested (Some x) = refl

-- a table that passes both
module _ (t : Table) (accepts : named_refusal (as_lent t) t.names.now ≡ None) where
  abbrev names : List ℕ
  names = t.names.now

  abbrev q : Project
  q = current (written t)

  both : ((as_lent t).refused ≡ None) × (true ≡ true) × (ltb 0 (length names) ≡ true)
  both = none-tested (as_lent t).refused true (ltb 0 (length names)) accepts

  some : length names ≡ 0 → ⊥
  some z = omega (arith, z, ltb-true 0 (length names) both.2)

  passed : Ok tt ≡ tested (as_lent t).refused
  passed = sym (ap tested both.0)

  pub as_written : Accepted (written t)
  as_written = written-accepted t passed

  pub named-fit : names_fit (modules q) names ≡ true
  named-fit = in-fit (modules q) names (names-fit t passed) some

-- of a table that passes
pub ruleset passing = (err-tested, as_written, named-fit)
