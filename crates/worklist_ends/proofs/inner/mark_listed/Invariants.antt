-- The places passed are marks.
use Rattle.lists.specs.Words.{has}
use Rattle.lists.proofs.Passes.{Passed}
use Rattle.worklist_ends.proofs.inner.mark_listed.Given as goal

abbrev pub invariant-loop-place : goal.invariant-loop-place
invariant-loop-place l = Passed (has l.initial.placed) l.initial.placed l.place-index l.placed
