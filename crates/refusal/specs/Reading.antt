-- What reading a lent table gives.
-- Assumes nothing.
use Rattle.std.specs.Prelude.{◌≡◌, None, Some, Result, Ok, Err}
use Rattle.tables.specs.Project.{Project}
use Rattle.tables.specs.declared.Refusal.{Refusal}
use Rattle.table.specs.declared.Table.{Table}
use Rattle.table.specs.Table.{Lent}
use Rattle.table.specs.Lending.{as_lent, written}

-- a project that nothing refuses, as it is read
pub record Read (t : Lent) (p : Project) : Type 0 where
  pub passed : t.refused ≡ None
  pub project : p ≡ t.project

-- the project as it is read, or what refuses it
abbrev pub ReadAs : Lent → Result Project Refusal → Type 0
ReadAs t (Ok p) = Read t p
ReadAs t (Err e) = t.refused ≡ Some e

-- a table as it is written, with what refuses it
abbrev pub as_written : Table → Lent
as_written t = record { refused = (as_lent t).refused; project = written t }
