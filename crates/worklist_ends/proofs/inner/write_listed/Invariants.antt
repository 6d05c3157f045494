-- The listed modules before m are written.
use Rattle.worklist_ends.specs.inner.Ends.{WrittenBelow}
use Rattle.worklist_ends.proofs.inner.write_listed.Given as goal

abbrev pub invariant-loop-m : goal.invariant-loop-m
invariant-loop-m l = WrittenBelow l.placed l.initial.list l.m l.list
