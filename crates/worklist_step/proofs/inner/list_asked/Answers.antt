-- `worklist_step::inner::list_asked`: an eligible row is listed.
use Rattle.request_queue.proofs.Growing.{chosen-pass, chosen-put, kept-on}
use Rattle.worklist_step.proofs.inner.list_asked.Goals as goal

pub loop-m-preserved-then-eligible-m-eq0 : goal.loop-m-preserved-then-eligible-m-eq0
loop-m-preserved-then-eligible-m-eq0 c = record { kept = c.loop-m.invariant.kept; grown = chosen-pass _ _ _ c.loop-m.invariant.grown c.if-eligible-m-eq0.true }

pub loop-m-preserved : goal.loop-m-preserved
loop-m-preserved c = record {
  kept = kept-on c.loop-m.invariant.kept c.push.ensures.kept;
  grown = chosen-put _ _ _ c.loop-m.invariant.grown c.if-eligible-m-eq0.false c.push.ensures.grown;
}
