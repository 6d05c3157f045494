-- One more value is looked at.
use Rattle.std.proofs.Common.{ℕ, ◌||◌, ltb, eqb, arith}
use Rattle.tables.specs.Project.{missing}
use Rattle.column_tests.proofs.Every.{row-joined}
use Rattle.column_tests.proofs.inner.under_or_missing.Goals as goal

pub loop-x-preserved : goal.loop-x-preserved
loop-x-preserved c = row-joined (λ (x : ℕ). ltb x c.args.bound || eqb x missing) c.args.column.now _ _ c.loop-x.x-index c.loop-x.invariant (omega arith)
