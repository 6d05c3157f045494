-- `worklist_ends::inner::list_seeds`: an eligible seed is listed.
use Rattle.std.proofs.Common.{arith}
use Rattle.lists.proofs.Laws.{take_more}
use Rattle.request_queue.proofs.Growing.{chosen-pass, chosen-put, kept-on}
use Rattle.worklist_ends.proofs.inner.list_seeds.Goals as goal

pub loop-m-preserved-then-ineligible : goal.loop-m-preserved-then-ineligible
loop-m-preserved-then-ineligible c = record {
  kept = c.loop-m.invariant.kept;
  grown = rw (← take_more c.args.seeds.now c.loop-m.m-index c.loop-m-test.true) (chosen-pass _ _ _ c.loop-m.invariant.grown (omega arith));
}

pub loop-m-preserved : goal.loop-m-preserved
loop-m-preserved c = record {
  kept = kept-on c.loop-m.invariant.kept c.push.ensures.kept;
  grown = rw (← take_more c.args.seeds.now c.loop-m.m-index c.loop-m-test.true) (chosen-put _ _ _ c.loop-m.invariant.grown (omega arith) c.push.ensures.grown);
}
