-- The roots before k are done.
-- Assumes nothing.
use Rattle.sensitivity.specs.Marks.{sensitive_marks}
use Rattle.eligibility.specs.Eligible.{eligible_marks}
use Rattle.wrap_rules.specs.Plan.{roots}
use Rattle.suffix_rule.proofs.Extending.{Walked}
use Rattle.suffix_rule.proofs.inner.extend_entries.Given as goal

abbrev pub invariant-loop-k : goal.invariant-loop-k
invariant-loop-k l = Walked l.rooted (roots l.rooted) (sensitive_marks l.rooted) (eligible_marks l.rooted) l.initial.plan l.k l.settled l.plan l.changed
