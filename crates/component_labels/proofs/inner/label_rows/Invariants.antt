-- The components that the rows so far lead into are labelled.
-- Assumes nothing.
use Rattle.std.proofs.Common.{length}
use Rattle.component_labels.proofs.Components.{LabelledBelow}
use Rattle.component_labels.proofs.inner.label_rows.Given as goal

abbrev pub invariant-loop-source : goal.invariant-loop-source
invariant-loop-source l = LabelledBelow l.graph.from l.graph.to l.numbers l.labels l.graph.places (length l.yielded)
