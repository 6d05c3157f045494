-- `record_columns::inner::columns_of` meets its contract: a row more of each column is copied.
-- Assumes nothing.
use Rattle.std.proofs.Common.{arith, rules, ◌<◌, length}
use Rattle.record_columns.specs.declared.Record.{Record}
use Rattle.record_columns.specs.Rows.{no_row}
use Rattle.record_columns.proofs.Copied.{copied-le, copied-limit, stored_too}
use Rattle.record_columns.proofs.inner.columns_of.Goals as goal

pub loop-row-init : goal.loop-row-init
loop-row-init c =
    let n = c.count-rows.result in
    record {
      counted = c.count-rows.ensures;
      copies = c.rows_copied-end.ensures;
      in_range = omega arith;
      in_records = omega (arith, copied-le n);
      in_arrays = omega (arith, copied-limit n);
      importers = search rules;
      kinds = search rules;
      targets = search rules;
    }

pub loop-row-preserved : goal.loop-row-preserved
loop-row-preserved c =
    let i = c.loop-row.row in
    let records = c.args.records.now in
    let l : i < length records = omega arith in
    let k : i < 16384 = omega arith in
    let held = c.loop-row.invariant in
    record {
      counted = held.counted;
      copies = held.copies;
      in_range = omega arith;
      in_records = held.in_records;
      in_arrays = held.in_arrays;
      importers = stored_too (λ (r : Record). r.importer) records i no_row _ _ l k held.importers c.importer_at.ensures;
      kinds = stored_too (λ (r : Record). r.kind) records i no_row _ _ l k held.kinds c.kind_at.ensures;
      targets = stored_too (λ (r : Record). r.target) records i no_row _ _ l k held.targets c.target_at.ensures;
    }
