-- The owners of the rows met are marked.
use Rattle.std.proofs.Common.{length}
use Rattle.tables.specs.Project.{missing}
use Rattle.marks.specs.Steps.{looked, Owners}
use Rattle.marks.proofs.inner.mark_rows.Given as goal

abbrev pub invariant-loop-at : goal.invariant-loop-at
invariant-loop-at l = Owners (looked missing l.owner l.value) l.rows (length l.yielded) l.initial.marks l.marks
