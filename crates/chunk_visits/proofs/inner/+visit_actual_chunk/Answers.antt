-- `chunk_visits::inner::visit_actual_chunk` meets its contract. What is known between the visits is `ChunkVisits`.
-- Assumes nothing.
use Rattle.std.proofs.Common.{arith, ◌<◌}
use Rattle.lists.specs.Words.{zeros}
use Rattle.chunk_visits.proofs.ChunkVisits.{passed, between_start, falls, call_fits, between_none, between_met, between_more, own-fits, run_fits, ended}
use Rattle.chunk_visits.proofs.inner.+visit_actual_chunk.Goals as goal

pub returns-in_default : goal.returns-in_default
returns-in_default t c = passed _ _ c.requires c.in_default.ensures

pub loop-load-init : goal.loop-load-init
loop-load-init t c = between_start c.requires c.in-Some.ensures

pub loop-load-preserved-then-load : goal.loop-load-preserved-then-load
loop-load-preserved-then-load t c = between_none c.requires c.in-Some.ensures c.loop-load.invariant c.if-load.true

pub loop-load-preserved-then-chunk_marks-load-ne0 : goal.loop-load-preserved-then-chunk_marks-load-ne0
loop-load-preserved-then-chunk_marks-load-ne0 t c = between_met c.requires c.in-Some.ensures c.loop-load.invariant c.loop-load-test.true c.if-load.false c.if-chunk_marks-load-ne0.true

pub visit_actual_chunk-requires : goal.visit_actual_chunk-requires
visit_actual_chunk-requires t c =
    let h : zeros c.loop-load.chunk_marks < zeros c.args.chunk_marks.now = falls c.requires c.in-Some.ensures c.loop-load.invariant in
    (omega (arith, h, c.decreases), call_fits c.requires c.in-Some.ensures c.loop-load.invariant c.loop-load-test.true c.if-load.false)

pub loop-load-preserved : goal.loop-load-preserved
loop-load-preserved t c = between_more c.requires c.in-Some.ensures c.loop-load.invariant c.if-load.false c.visit_actual_chunk.ensures

pub part-own-requires : goal.part-own-requires
part-own-requires t c = own-fits c.requires c.in-Some.ensures c.loop-load.invariant

pub execute_members-requires : goal.execute_members-requires
execute_members-requires t c = run_fits c.requires c.in-Some.ensures c.loop-load.invariant c.part-own.ensures

pub returns : goal.returns
returns t c = ended c.requires c.in-Some.ensures c.loop-load.invariant c.loop-load-test.false c.loop-load.auto.load-index-end c.part-own.ensures c.execute_members.ensures
