-- What the functions over a table ask and ensure, at its project.
-- Assumes nothing.
use Rattle.std.specs.Prelude.{◌≡◌, ℕ, ◌≤◌, List}
use Rattle.tables.specs.Project.{Project}
use Rattle.tables.specs.Readings.{modules}
use Rattle.visit_columns.specs.declared.inner.VisitColumns.{VisitColumns}
use Rattle.visit_columns.specs.inner.OverTable.{PreparedAs}
use Rattle.entry_run.specs.Actual.{run_of}
use Rattle.entry_run.specs.inner.Cores.{Listed}

-- room for an order of a project's modules, and a place a module for their hosts
pub record Listing (p : Project) (order hosts : ℕ) : Type 0 where
  pub size : hosts ≡ modules p
  pub room : modules p ≤ order

-- the columns that the visits read with some wraps
abbrev pub PreparedSome : Project → VisitColumns → Type 0
PreparedSome p columns = (wraps : List ℕ) × PreparedAs p wraps columns

-- the run with those wraps, whichever they are, is written
abbrev pub ListedAs : Project → VisitColumns → ℕ → List ℕ → List ℕ → List ℕ → ℕ → Type 0
ListedAs p columns root order order' hosts' r = (wraps : List ℕ) → PreparedAs p wraps columns → Listed (run_of p wraps root) order order' hosts' r
