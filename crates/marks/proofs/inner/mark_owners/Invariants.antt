-- The owners of the rows met are marked.
use Rattle.std.proofs.Common.{length}
use Rattle.marks.specs.Steps.{looked, Owners}
use Rattle.marks.proofs.inner.mark_owners.Given as goal

abbrev pub invariant-loop-m : goal.invariant-loop-m
invariant-loop-m l = Owners l.owner (looked 0 l.set l.value) (length l.yielded) l.initial.marks l.marks
