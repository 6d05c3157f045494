-- The labels of the modules below m are marked.
-- Assumes nothing.
use Rattle.tables.specs.Project.{missing}
use Rattle.marks.specs.Steps.{looked, Owners}
use Rattle.component_rule.proofs.inner.mark_labels.Given as goal

abbrev pub invariant-loop-m : goal.invariant-loop-m
invariant-loop-m l = Owners (looked missing l.labels l.chunk) l.plan l.m l.initial.hits l.hits
