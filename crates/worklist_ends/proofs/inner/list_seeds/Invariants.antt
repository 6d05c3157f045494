-- The seeds passed are looked at.
use Rattle.std.proofs.Common.{take}
use Rattle.request_queue.specs.inner.Growing.{Grown, given, chosen}
use Rattle.request_queue.specs.inner.Lent.{listing, Kept}
use Rattle.worklist_ends.proofs.inner.list_seeds.Given as goal

abbrev pub invariant-loop-m : goal.invariant-loop-m
invariant-loop-m l = record {
  kept : Kept l.fn.list l.list;
  grown : Grown (given (chosen l.eligible) (take l.m-index l.seeds)) (listing l.fn.list) (listing l.list);
}
