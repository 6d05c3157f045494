-- `Queue::reach`: the members are followed in turn, until none is left.
use Rattle.std.proofs.Common.{arith}
use Rattle.request_queue.proofs.Growing.{listed-fits, kept-on}
use Rattle.request_queue.proofs.Reaching.{reaching-start, reaching-next, reaching-end}
use Rattle.request_queue.proofs.inner.Queue.reach.Goals as goal

pub loop-k-init : goal.loop-k-init
loop-k-init c = record {
  kept = c.follow.ensures.kept;
  reaching = rw c.len-k.ensures.count (reaching-start _ _ _ _ c.len-k.ensures.listed c.requires.along c.follow.ensures.grown);
}

pub loop-k-smaller : goal.loop-k-smaller
loop-k-smaller c = omega (arith, listed-fits c.len.ensures.listed, c.len.ensures.count, c.loop-k-test.true, c.follow-in-loop-k.ensures.grown.grew.size)

pub loop-k-preserved : goal.loop-k-preserved
loop-k-preserved c = record {
  kept = kept-on c.loop-k.invariant.kept c.follow-in-loop-k.ensures.kept;
  reaching =
      reaching-next _ _ _ _ _ c.len.ensures.listed c.loop-k.invariant.reaching c.requires.along (rw c.len.ensures.count at c.loop-k-test.true) _ (rw c.at-next.ensures.member at c.follow-in-loop-k.ensures.grown);
}

pub returns : goal.returns
returns c = record {
  kept = c.loop-k.invariant.kept;
  reached = reaching-end _ _ _ _ _ c.len.ensures.listed c.loop-k.invariant.reaching c.requires.along (rw c.len.ensures.count at c.loop-k-test.false);
}
