-- The rows so far are looked at.
use Rattle.request_queue.specs.inner.Growing.{Grown, given, chosen}
use Rattle.request_queue.specs.inner.Lent.{listing, Kept}
use Rattle.worklist_step.proofs.inner.list_asked.Given as goal

abbrev pub invariant-loop-m : goal.invariant-loop-m
invariant-loop-m l = record {
  kept : Kept l.fn.list l.list;
  grown : Grown (given (chosen l.eligible) l.yielded) (listing l.fn.list) (listing l.list);
}
