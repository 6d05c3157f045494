-- The places below m are added.
-- Assumes nothing.
use Rattle.marks.specs.Steps.{Adding, InAll}
use Rattle.marks.proofs.inner.add.Given as goal

abbrev pub invariant-loop-m : goal.invariant-loop-m
invariant-loop-m l = Adding (InAll l.first l.second l.third) l.m l.initial.set l.set l.changed
