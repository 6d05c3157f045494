-- The roots before k are done.
-- Assumes nothing.
use Rattle.suffix_places.specs.inner.Places.{LowestBelow}
use Rattle.suffix_places.proofs.inner.lower_entries.Given as goal

abbrev pub invariant-loop-k : goal.invariant-loop-k
invariant-loop-k l = LowestBelow l.current l.roots l.sensitive l.eligible l.placed l.initial.asked l.k l.settled l.asked
