-- The measure is the number of modules that are not met. Between the rows, the visits so far lead from the marked module's state to what
-- the slices and the counters hold.
-- Assumes nothing.
use Rattle.lists.specs.Words.{zeros}
use Rattle.sort_visit.proofs.Turns.{at, Between}
use Rattle.sort_visit.proofs.inner.+visit.Given as goal

abbrev pub decreases-visit : goal.decreases-visit
decreases-visit l = zeros l.marks.now

abbrev pub invariant-loop-row : goal.invariant-loop-row
invariant-loop-row l =
    let f = l.fn in
    Between f.columns (at f.counters f.marks f.numbers f.sorted) f.m f.starts l.row (at l.counters l.marks l.numbers l.sorted)
