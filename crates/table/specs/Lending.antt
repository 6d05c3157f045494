-- A table as it is lent, with the import records that it is read with.
-- Assumes nothing.
use Rattle.tables.specs.Project.{Project}
use Rattle.table.specs.declared.Table.{Table}
use Rattle.table.specs.Table.{table, with_records, Lent, lent_with}

-- the project that is written there
abbrev pub written : Table → Project
written t = with_records (table t.runtime t.dynamic t.bounds.now t.columns.now) t.importers.now t.kinds.now t.targets.now

-- the project as it is read, with what refuses it
abbrev pub as_lent : Table → Lent
as_lent t = lent_with t.runtime t.dynamic t.bounds.now t.columns.now t.names.now t.importers.now t.kinds.now t.targets.now
