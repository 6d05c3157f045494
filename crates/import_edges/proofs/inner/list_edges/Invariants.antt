-- The edges of the rows below `row` are written.
-- Assumes nothing.
use Rattle.std.proofs.Common.{◌≤◌}
use Rattle.import_edges.proofs.Edging.{ImportsBelow}
use Rattle.import_edges.proofs.inner.list_edges.Given as goal

abbrev pub invariant-loop-row : goal.invariant-loop-row
invariant-loop-row l = record {
  few : l.count ≤ l.row;
  edges : ImportsBelow l.columns.record_module l.columns.record_kind l.columns.record_target l.row l.from l.to l.count;
}
