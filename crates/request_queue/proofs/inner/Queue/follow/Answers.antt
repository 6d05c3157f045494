-- `Queue::follow`: the targets are listed one by one.
use Rattle.request_queue.proofs.Growing.{grown-more, kept-on}
use Rattle.request_queue.proofs.inner.Queue.follow.Goals as goal

pub loop-target-preserved : goal.loop-target-preserved
loop-target-preserved c = record {
  kept = kept-on c.loop-target.invariant.kept c.push.ensures.kept;
  grown = grown-more _ _ c.loop-target.invariant.grown c.push.ensures.grown;
}
