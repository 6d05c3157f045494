-- What the functions over a table ensure, at its project.
-- Assumes nothing.
use Rattle.std.specs.Prelude.{◌≡◌, ℕ, ◌+◌, List, length}
use Rattle.tables.specs.Project.{Project}
use Rattle.tables.specs.Lookups.{FirstRows}
use Rattle.tables.specs.Readings.{modules, chunks, values_of}
use Rattle.load_order.specs.LoadOrder.{load_order}
use Rattle.load_order.specs.inner.Rows.{Loads}
use Rattle.triggers.specs.inner.Columns.{ways, triggers}
use Rattle.visit_columns.specs.declared.inner.VisitColumns.{VisitColumns}

-- the columns that the visits of a project with these wraps read, the imported chunks in load order
pub record PreparedAs (p : Project) (wraps : List ℕ) (columns : VisitColumns) : Type 0 where
  pub way : columns.ways.now ≡ ways p.normal p.included wraps (modules p)
  pub starts : FirstRows p.record_module columns.starts.now
  pub start_places : length columns.starts.now ≡ modules p + 1
  pub trigger : columns.triggers.now ≡ triggers p.normal p.included wraps p.record_kind p.record_target (length p.record_module)
  pub member_starts : FirstRows p.member_chunk columns.member_starts.now
  pub member_places : length columns.member_starts.now ≡ chunks p + 1
  pub load_starts : FirstRows p.import_chunk columns.load_starts.now
  pub load_places : length columns.load_starts.now ≡ chunks p + 1
  pub loading : Loads p.import_chunk columns.loads.now (chunks p)
  pub same : values_of p.import_chunk columns.loads.now ≡ load_order p.order p.import_chunk p.imports

-- with its own wraps
abbrev pub Prepared : Project → VisitColumns → Type 0
Prepared p columns = PreparedAs p p.wrap columns
