-- The mark of m is written.
-- Assumes nothing.
use Rattle.std.proofs.Common.{arith}
use Rattle.lists.proofs.Passes.{passed-more}
use Rattle.eligibility.proofs.inner.mark_eligible.Goals as goal

pub loop-m-preserved : goal.loop-m-preserved
loop-m-preserved c = passed-more _ c.args.marks.now _ _ c.loop-m.invariant _ (cc) (omega arith)
