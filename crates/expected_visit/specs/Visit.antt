-- What the visit asks, what it follows, and the state of its walk.
-- Assumes nothing.
use Rattle.std.specs.Prelude.{◌≡◌, ℕ, ◌≤◌, List, length}
use Rattle.walk.specs.Walk.{St, Placed}
use Rattle.tables.specs.Project.{Project}
use Rattle.tables.specs.Readings.{modules}
use Rattle.tables.specs.Lookups.{Rising}
use Rattle.tables.specs.Refusal.{module_limit, row_limit}
use Rattle.expected_visit.specs.Expected.{normal_imports_of}

-- the columns fit each other and the limits: n modules, and records in module order
pub record Fit (p : Project) (n : ℕ) : Type 0 where
  pub normals : modules p ≡ n
  pub includeds : length p.included ≡ n
  pub kinds : length p.record_kind ≡ length p.record_module
  pub targets : length p.record_target ≡ length p.record_module
  pub rising : Rising p.record_module
  pub few : n ≤ module_limit
  pub rows : length p.record_module ≤ row_limit

-- what the walk goes over, in a project
abbrev pub normal_imports : Project → ℕ → List ℕ
normal_imports p = normal_imports_of p.normal p.record_module p.record_kind p.record_target

-- the state of the walk as the slices hold it
abbrev pub held : List ℕ → List ℕ → ℕ → St Placed
held marks order count = record { marks = marks; made = record { order = order; count = count } }
