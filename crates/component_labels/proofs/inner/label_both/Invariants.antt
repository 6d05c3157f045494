-- The places below d are labelled anew.
-- Assumes nothing.
use Rattle.component_labels.specs.inner.Labelling.{in_both}
use Rattle.component_labels.proofs.Labelling.{Labelling}
use Rattle.component_labels.proofs.inner.label_both.Given as goal

abbrev pub invariant-loop-d : goal.invariant-loop-d
invariant-loop-d l = Labelling (in_both l.ahead l.behind) l.c l.fn.labels l.labels l.d
