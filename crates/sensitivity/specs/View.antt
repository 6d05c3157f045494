-- The project whose statements and uses are found, and how they are.
-- Assumes nothing.
use Rattle.std.specs.Prelude.{◌≡◌, ℕ, ◌+◌, List, length}
use Rattle.tables.specs.Project.{Project}
use Rattle.tables.specs.Readings.{modules}
use Rattle.tables.specs.Lookups.{FirstRows}
use Rattle.threads.specs.inner.Rows.{Column}
use Rattle.sensitivity.specs.Ready.{Flags, Records, UseRows, Statements}
use Rattle.sensitivity.specs.declared.inner.StatementRows.TheInside.{Inside}

-- the columns' project
abbrev pub project_of : Inside → Project
project_of s = s.columns.now

-- the columns fit each other; the first statement row of each module and one past them, and each statement's uses
pub record Found (p : Project) (starts : List ℕ) (uses : Column) : Type 0 where
  pub flags : Flags p
  pub records : Records p
  pub rows : UseRows p
  pub statements : Statements p
  pub places : length starts ≡ modules p + 1
  pub firsts : FirstRows p.statement_module starts
  pub threads : uses ≡ record { values = p.use_statement; places = length p.statement_included }

-- those of the columns
abbrev pub AreFound : Inside → Type 0
AreFound s = Found s.columns.now s.starts.now s.uses
