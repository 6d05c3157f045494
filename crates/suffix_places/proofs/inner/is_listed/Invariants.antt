-- The members passed are listed.
-- Assumes nothing.
use Rattle.suffix_places.proofs.Lowering.{ListedBelow}
use Rattle.suffix_places.proofs.inner.is_listed.Given as goal

abbrev pub invariant-loop-member : goal.invariant-loop-member
invariant-loop-member l = ListedBelow l.order l.sensitive l.eligible l.placed l.member-index
