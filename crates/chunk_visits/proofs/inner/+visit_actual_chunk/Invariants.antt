-- The measure is the number of chunks that are not met. What is known between the rows is `Between`.
-- Assumes nothing.
use Rattle.lists.specs.Words.{zeros}
use Rattle.chunk_visits.proofs.ChunkVisits.{Between}
use Rattle.chunk_visits.proofs.inner.+visit_actual_chunk.Given as goal

abbrev pub decreases-visit_actual_chunk : goal.decreases-visit_actual_chunk
decreases-visit_actual_chunk l = zeros l.chunk_marks.now

abbrev pub invariant-loop-load : goal.invariant-loop-load
invariant-loop-load l =
    let f = l.fn in
    Between f.columns f.member f.c l.initial.chunk_marks f.marks f.order f.hosts f.traversal l.rows l.load-index l.traversal l.chunk_marks l.marks l.order l.hosts
