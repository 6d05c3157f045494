-- What functions on columns ask.
-- Assumes nothing.
use Rattle.std.specs.Prelude.{◌≡◌, ◌≤◌, length}
use Rattle.tables.specs.Project.{Project}
use Rattle.tables.specs.Readings.{modules}
use Rattle.tables.specs.Refusal.{row_limit}
use Rattle.tables.specs.Lookups.{Rising}
use Rattle.tables.specs.Accepted.{Below}

-- the columns that say what a record wakes fit each other
pub record Records (p : Project) : Type 0 where
  pub wraps : length p.wrap ≡ modules p
  pub targets : length p.record_target ≡ length p.record_kind

-- a module's flags are there
pub record Flags (p : Project) : Type 0 where
  pub includeds : length p.included ≡ modules p
  pub flags : length p.sensitive ≡ modules p

-- the statements are in module order, few, and each says whether it is included
pub record Statements (p : Project) : Type 0 where
  pub rising : Rising p.statement_module
  pub includeds : length p.statement_included ≡ length p.statement_module
  pub few : length p.statement_module ≤ row_limit

-- the uses are few, and each names a statement and a record
pub record UseRows (p : Project) : Type 0 where
  pub rows : length p.use_statement ≡ length p.use_record
  pub few : length p.use_record ≤ row_limit
  pub owned : Below (length p.statement_module) p.use_statement
  pub named : Below (length p.record_kind) p.use_record
