-- The measure is the number of modules that are not met. Between the rows, the visits so far lead from the marked module's state to the
-- slices (`Walking`).
use Rattle.std.proofs.Common.{◌≤◌}
use Rattle.lists.specs.Words.{zeros}
use Rattle.expected_visit.proofs.Walking.{Walking}
use Rattle.expected_visit.proofs.inner.+visit.Given as goal

abbrev pub decreases-visit : goal.decreases-visit
decreases-visit l = zeros l.marks.now

abbrev pub invariant-loop-row : goal.invariant-loop-row
invariant-loop-row l = record {
  going : Walking l.columns l.fn.marks l.fn.order l.m l.placed l.start l.row l.marks l.order l.count;
  within : l.row ≤ l.end;
}
