-- All places are written.
-- Assumes nothing.
use Rattle.std.proofs.Common.{ℕ, length, refl, arith}
use Rattle.marks.proofs.Steps.{writing_start, writing-put, writing-end}
use Rattle.request_edges.specs.inner.Edges.{numbered}
use Rattle.request_edges.proofs.inner.number.Goals as goal

pub loop-i-init : goal.loop-i-init
loop-i-init c = writing_start _ _ c.args.out.now refl

pub loop-i-preserved : goal.loop-i-preserved
loop-i-preserved c = writing-put _ _ c.loop-i.i c.loop-i.out c.loop-i.invariant c.loop-i.i (omega arith) refl

pub returns : goal.returns
unfolding numbered
returns c = writing-end (λ (j : ℕ). j) (length c.args.out.now) c.loop-i.i c.loop-i.out c.loop-i.invariant (omega arith)
