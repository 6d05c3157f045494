-- The targets so far are listed.
use Rattle.request_queue.specs.inner.Growing.{among, Grown}
use Rattle.request_queue.specs.inner.Lent.{listing, Kept}
use Rattle.request_queue.proofs.inner.Queue.follow.Given as goal

abbrev pub invariant-loop-target : goal.invariant-loop-target
invariant-loop-target l = record {
  kept : Kept l.fn.self l.self;
  grown : Grown (among l.yielded) (listing l.fn.self) (listing l.self);
}
