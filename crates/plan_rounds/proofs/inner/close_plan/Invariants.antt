-- `close_plan`: the plan comes from the first by passes, and fewer modules are out after each that changes it.
use Rattle.std.proofs.Common.{◌+◌}
use Rattle.lists.specs.Words.{zeros, bit}
use Rattle.plan_rounds.proofs.Rounds.{Turning}
use Rattle.plan_rounds.proofs.inner.close_plan.Given as goal

abbrev pub invariant-loop-more : goal.invariant-loop-more
invariant-loop-more l = Turning l.sets l.settled l.leads l.fn.plan l.plan l.more

abbrev pub decreases-loop-more : goal.decreases-loop-more
decreases-loop-more l = zeros l.plan + bit l.more
