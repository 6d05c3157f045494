-- A place that is in all three sets comes in.
-- Assumes nothing.
use Rattle.std.proofs.Common.{arith}
use Rattle.marks.proofs.Turns.{comes_in}
use Rattle.marks.proofs.inner.add.Goals as goal

pub loop-m-preserved : goal.loop-m-preserved
loop-m-preserved c = comes_in _ _ _ _ _ _ _ c.loop-m.invariant (omega arith) (omega arith) (omega arith) (omega arith) (omega arith)
