-- All places are written.
-- Assumes nothing.
use Rattle.std.proofs.Common.{length, arith}
use mathlib.Core.Path.{sym}
use Rattle.marks.proofs.Steps.{writing_start, writing-put, writing-end}
use Rattle.request_edges.specs.inner.Edges.{chosen}
use Rattle.request_edges.proofs.inner.number_chosen.Goals as goal

pub loop-m-init : goal.loop-m-init
loop-m-init c = writing_start _ _ c.args.out.now (sym c.requires.first)

pub loop-m-preserved : goal.loop-m-preserved
loop-m-preserved c = writing-put _ _ c.loop-m.m c.loop-m.out c.loop-m.invariant c.choose.result (omega arith) c.choose.ensures

pub returns : goal.returns
unfolding chosen
returns c = writing-end _ (length c.args.first.now) c.loop-m.m c.loop-m.out c.loop-m.invariant (omega arith)
