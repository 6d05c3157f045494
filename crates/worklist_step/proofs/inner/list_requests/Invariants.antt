-- The places passed are looked at.
use Rattle.std.proofs.Common.{take}
use Rattle.request_queue.specs.inner.Growing.{Grown, given}
use Rattle.request_queue.specs.inner.Lent.{listing, Kept}
use Rattle.worklist_step.specs.inner.Step.{Gives}
use Rattle.worklist_step.proofs.inner.list_requests.Given as goal

abbrev pub invariant-loop-v : goal.invariant-loop-v
invariant-loop-v l = record {
  kept : Kept l.fn.list l.list;
  grown : Grown (given (Gives l.marks l.candidates) (take l.v-index l.part)) (listing l.fn.list) (listing l.list);
}
