-- A member that isn't in is visited.
-- Assumes nothing.
use Rattle.std.proofs.Common.{get_or, arith}
use Rattle.lists.proofs.Laws.{mark-in}
use Rattle.import_edges.proofs.Spreading.{spreading-visit, spreading-end}
use Rattle.import_edges.proofs.inner.spread.Goals as goal

pub loop-m-preserved : goal.loop-m-preserved
loop-m-preserved c = spreading-visit _ _ _ _ _ c.loop-m.invariant _ (mark-in (get_or c.args.set.now c.loop-m.m 0) c.if-mark-eq0.false) c.visit.ensures

pub returns : goal.returns
returns c = spreading-end _ _ _ _ _ c.loop-m.invariant (omega arith)
