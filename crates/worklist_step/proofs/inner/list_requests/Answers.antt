-- `worklist_step::inner::list_requests`: the module that a place gives is listed.
use Rattle.lists.proofs.Laws.{take_more}
use Rattle.request_queue.proofs.Growing.{given-pass, given-put, kept-on}
use Rattle.worklist_step.specs.inner.Step.{Gives}
use Rattle.worklist_step.proofs.inner.list_requests.Goals as goal

pub loop-v-preserved-in_default : goal.loop-v-preserved-in_default
loop-v-preserved-in_default c =
    let a = c.args in
    record {
      kept = c.loop-v.invariant.kept;
      grown = rw (← take_more a.part.now c.loop-v.v-index c.loop-v-test.true) (given-pass (Gives a.marks.now a.candidates.now) _ _ c.loop-v.invariant.grown c.in_default.ensures);
    }

pub loop-v-preserved : goal.loop-v-preserved
loop-v-preserved c =
    let a = c.args in
    record {
      kept = kept-on c.loop-v.invariant.kept c.push.ensures.kept;
      grown =
          rw (← take_more a.part.now c.loop-v.v-index c.loop-v-test.true) (given-put (Gives a.marks.now a.candidates.now) _ _ c.loop-v.invariant.grown c.in-Some.m c.in-Some.ensures.0 c.in-Some.ensures.1 c.push.ensures.grown);
    }
