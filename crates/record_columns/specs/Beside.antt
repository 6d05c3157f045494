-- A table that is read with a list of records in the place of its own.
-- Assumes nothing.
use Rattle.std.specs.Prelude.{◌≡◌, List, Some, Result, Ok, Err}
use Rattle.tables.specs.declared.Refusal.{Refusal}
use Rattle.table.specs.declared.Table.{Table}
use Rattle.table.specs.Table.{Lent, lent_with}
use Rattle.table.specs.Lending.{as_lent}
use Rattle.record_columns.specs.declared.Record.{Record}
use Rattle.record_columns.specs.Rows.{importer_column, kind_column, target_column}

-- what is lent with a table and a list of records beside it
abbrev pub lent_beside : Table → List Record → Lent
lent_beside t records = lent_with t.runtime t.dynamic t.bounds.now t.columns.now t.names.now (importer_column records) (kind_column records) (target_column records)

-- what is lent is that table, with its names; or why it is refused
pub record Beside (t : Table) (records : List Record) (u : Table) : Type 0 where
  pub lent : as_lent u ≡ lent_beside t records
  pub names : u.names.now ≡ t.names.now

abbrev pub LentBeside : Table → List Record → Result Table Refusal → Type 0
LentBeside t records (Ok u) = Beside t records u
LentBeside t records (Err e) = (lent_beside t records).refused ≡ Some e
