-- One more row is met.
use Rattle.marks.proofs.Steps.{owners-start, owner-turn}
use Rattle.marks.proofs.inner.mark_rows.Goals as goal

pub loop-at-init : goal.loop-at-init
loop-at-init c = owners-start _ _ _

pub loop-at-preserved : goal.loop-at-preserved
loop-at-preserved c =
    let l = c.loop-at in
    owner-turn _ _ c.into_iter-at-iterator.result _ c.next.new.self _ _ _ _ _ _ _ l.invariant c.raise.ensures c.requires.values l.yielded_by c.in-Some.ensures.steps (cc) (cc c.zip-at-items.ensures.second.0)
