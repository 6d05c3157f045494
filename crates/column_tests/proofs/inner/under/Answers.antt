-- One more value is looked at.
use Rattle.std.proofs.Common.{ℕ, ltb, arith}
use Rattle.column_tests.proofs.Every.{row-joined}
use Rattle.column_tests.proofs.inner.under.Goals as goal

pub loop-x-preserved : goal.loop-x-preserved
loop-x-preserved c = row-joined (λ (x : ℕ). ltb x c.args.bound) c.args.column.now _ _ c.loop-x.x-index c.loop-x.invariant (omega arith)
