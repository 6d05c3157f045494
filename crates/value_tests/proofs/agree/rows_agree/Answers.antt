-- `value_tests::agree::rows_agree`: what its callees ask, column by column.
-- Assumes nothing.
use Rattle.tables.proofs.Accepted.{sizes-fit, rows-rise}
use Rattle.table.specs.Table.{table, read}
use Rattle.table.specs.Lending.{written}
use Rattle.value_tests.proofs.Passed.{entries-in, import-chunks-in, imports-in}
use Rattle.value_tests.proofs.agree.rows_agree.Goals as goal

pub entries_once-requires : goal.entries_once-requires
unfolding table read
entries_once-requires c = rw c.column-entry.ensures (entries-in (written c.args.table.now) c.requires.sizes c.requires.values)

pub imports_once-requires : goal.imports_once-requires
unfolding table read
imports_once-requires c =
    let p = written c.args.table.now in
    let sizes = c.requires.sizes in
    let values = c.requires.values in
    record {
      rising = rw c.column-import_chunk.ensures (rows-rise p c.requires.rises).import_chunk;
      bounds = rw (c.column-import_chunk.ensures, c.column-imports.ensures) (sizes-fit p sizes).imports;
      from = rw c.column-import_chunk.ensures (import-chunks-in p sizes values);
      to = rw c.column-imports.ensures (imports-in p sizes values);
    }
