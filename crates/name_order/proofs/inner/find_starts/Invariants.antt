-- The starts of the names so far are found, and the next name starts at `at`.
-- Assumes nothing.
use Rattle.std.proofs.Common.{◌≤◌, length}
use Rattle.name_order.proofs.LinesAt.{Finding}
use Rattle.name_order.proofs.inner.find_starts.Given as goal

abbrev pub invariant-loop-start : goal.invariant-loop-start
invariant-loop-start l = record {
  found : Finding l.names l.start-items l.start-index l.at;
  within : l.at ≤ length l.names;
}
