-- The members so far that are in the set are marked.
-- Assumes nothing.
use Rattle.risk_of_orders.proofs.Flagging.{ListedBelow}
use Rattle.risk_of_orders.proofs.inner.mark_listed.Given as goal

abbrev pub invariant-loop-m : goal.invariant-loop-m
invariant-loop-m l = ListedBelow l.which l.order l.initial.marks l.m-index l.marks
