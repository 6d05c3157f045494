-- What is counted and what is left are all.
-- Assumes nothing.
use Rattle.std.proofs.Common.{◌≡◌, ◌+◌, ◌≤◌, length, drop}
use Rattle.lists.specs.Words.{keep}
use Rattle.component_labels.specs.inner.Labelling.{labelled}
use Rattle.component_labels.proofs.inner.count_labelled.Given as goal

abbrev pub invariant-loop-label : goal.invariant-loop-label
invariant-loop-label l = record {
  counted : l.count + length (keep labelled (drop l.label-index l.labels)) ≡ length (keep labelled l.labels);
  few : l.count ≤ l.label-index;
}
