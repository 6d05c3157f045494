-- One more row is met.
use Rattle.marks.proofs.Steps.{owners-start, mark-turn}
use Rattle.marks.proofs.inner.mark_owners.Goals as goal

pub loop-m-init : goal.loop-m-init
loop-m-init c = owners-start _ _ _

pub loop-m-preserved : goal.loop-m-preserved
loop-m-preserved c =
    let l = c.loop-m in
    mark-turn _ _ c.into_iter-m-iterator.result _ c.next.new.self _ _ _ _ _ _ l.invariant c.raise.ensures l.yielded_by c.in-Some.ensures.steps (cc) (cc c.zip-m-items.ensures.second.0)
