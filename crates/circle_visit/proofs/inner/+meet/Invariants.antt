-- The measure is the number of modules that are not begun. Between the rows, the meetings so far lead from the state where the module is begun to the slices
-- (`Going`).
-- Assumes nothing.
use Rattle.std.proofs.Common.{◌+◌}
use Rattle.lists.specs.Words.{zeros}
use Rattle.circle_search.proofs.Searches.{Going}
use Rattle.circle_rows.specs.Rows.{led_row}
use Rattle.circle_visit.specs.Visit.{write, led_by, held}
use Rattle.circle_visit.proofs.inner.+meet.Given as goal

abbrev pub decreases-meet : goal.decreases-meet
decreases-meet l = zeros l.states.now

abbrev pub invariant-loop-t : goal.invariant-loop-t
invariant-loop-t l =
    Going (led_by l.starts l.led) write (led_row l.led) l.start (held l.initial.states l.initial.stack (l.depth + 1) l.initial.paths l.initial.lengths l.initial.so_far.count l.initial.so_far.used) (l.start + l.t-index)
    (held l.states l.stack (l.depth + 1) l.paths l.lengths l.so_far.count l.so_far.used)
