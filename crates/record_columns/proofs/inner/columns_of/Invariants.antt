-- The columns are copied as far as the row.
-- Assumes nothing.
use Rattle.std.proofs.Common.{◌≡◌, ◌≤◌, length}
use Rattle.record_columns.specs.Rows.{copied, padded, importer_column, kind_column, target_column}
use Rattle.record_columns.proofs.inner.columns_of.Given as goal

abbrev pub invariant-loop-row : goal.invariant-loop-row
invariant-loop-row l = record {
  counted : l.rows ≡ length l.records;
  copies : l.end ≡ copied l.rows;
  in_range : l.row ≤ l.end;
  in_records : l.end ≤ length l.records;
  in_arrays : l.end ≤ 16384;
  importers : l.importers ≡ padded l.row (importer_column l.records);
  kinds : l.kinds ≡ padded l.row (kind_column l.records);
  targets : l.targets ≡ padded l.row (target_column l.records);
}
