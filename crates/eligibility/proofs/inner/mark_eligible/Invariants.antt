-- The marks of the modules below m are written.
-- Assumes nothing.
use Rattle.lists.proofs.Passes.{Passed}
use Rattle.eligibility.specs.Eligible.{eligible}
use Rattle.eligibility.proofs.inner.mark_eligible.Given as goal

abbrev pub invariant-loop-m : goal.invariant-loop-m
invariant-loop-m l = Passed (eligible l.columns) l.initial.marks l.m l.marks
