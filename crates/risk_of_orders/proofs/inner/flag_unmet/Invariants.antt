-- What the members so far put at risk, if they are sensitive and have no mark in the other order, is flagged.
-- Assumes nothing.
use Rattle.risk_of_orders.proofs.Flagging.{UnmetBelow}
use Rattle.risk_of_orders.proofs.inner.flag_unmet.Given as goal

abbrev pub invariant-loop-m : goal.invariant-loop-m
invariant-loop-m l = UnmetBelow l.columns.eligible l.columns.hosts l.columns.sensitive l.other l.order l.initial.out l.m-index l.out
