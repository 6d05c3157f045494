-- What the members so far put at risk, if they are overtaken, is flagged, and `latest` is the greatest place so far.
-- Assumes nothing.
use Rattle.risk_of_orders.proofs.Flagging.{OvertakenBelow}
use Rattle.risk_of_orders.proofs.inner.flag_overtaken.Given as goal

abbrev pub invariant-loop-m : goal.invariant-loop-m
invariant-loop-m l = OvertakenBelow l.columns.eligible l.columns.hosts l.columns.sensitive l.places l.expected l.initial.out l.m-index l.out l.latest
