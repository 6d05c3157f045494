-- The members passed are looked at.
-- Assumes nothing.
use Rattle.suffix_places.proofs.Lowering.{Lowering}
use Rattle.suffix_places.proofs.inner.lower_order.Given as goal

abbrev pub invariant-loop-member : goal.invariant-loop-member
invariant-loop-member l = Lowering l.order l.sensitive l.placed l.initial.asked l.member-index l.least l.asked
