-- The members below m are in, and the marks are closed.
-- Assumes nothing.
use Rattle.import_edges.proofs.Spreading.{Spreading}
use Rattle.import_edges.proofs.inner.spread.Given as goal

abbrev pub invariant-loop-m : goal.invariant-loop-m
invariant-loop-m l = Spreading l.graph.from l.graph.to l.set l.m l.marks
