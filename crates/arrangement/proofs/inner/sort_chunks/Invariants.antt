-- The chunks before the one at hand are sorted; their member rows end at `start`.
use Rattle.merge_sort.specs.inner.Held.{key_at}
use Rattle.arrangement.proofs.Chunks.{Arranging}
use Rattle.arrangement.proofs.inner.sort_chunks.Given as goal

abbrev pub invariant-loop-c : goal.invariant-loop-c
invariant-loop-c l = Arranging (key_at l.keys) l.member_chunk l.fn.members l.members l.c l.start
