-- The suffixes of the roots passed are marked.
-- Assumes nothing.
use Rattle.sensitivity.specs.Marks.{sensitive_marks}
use Rattle.wrap_rules.specs.Plan.{roots}
use Rattle.asked_suffixes.proofs.Marking.{Before}
use Rattle.asked_suffixes.proofs.inner.mark_entries.Given as goal

abbrev pub invariant-loop-root : goal.invariant-loop-root
invariant-loop-root l = Before l.rooted (roots l.rooted) (sensitive_marks l.rooted) l.plan l.root-index l.initial.asked l.asked
