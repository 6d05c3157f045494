-- One more value is looked at.
use Rattle.std.proofs.Common.{ℕ, eqb, get_or, arith}
use Rattle.column_tests.proofs.Every.{row-joined}
use Rattle.column_tests.proofs.inner.all_at.Goals as goal

pub loop-x-preserved : goal.loop-x-preserved
loop-x-preserved c = rw c.value_at.ensures (row-joined (λ (x : ℕ). eqb (get_or c.args.values.now x 0) c.args.value) c.args.column.now _ _ c.loop-x.x-index c.loop-x.invariant (omega arith))
