-- What the visits ask, and the state of their walk.
-- Assumes nothing.
use Rattle.std.specs.Prelude.{◌≡◌, ℕ, ◌+◌, ◌<◌, ◌≤◌, List, length}
use Rattle.lists.specs.Words.{zeros}
use Rattle.walk.specs.Walk.{St}
use Rattle.tables.specs.Project.{Project, missing}
use Rattle.tables.specs.Readings.{modules}
use Rattle.tables.specs.Lookups.{Rising, FirstRows}
use Rattle.tables.specs.Refusal.{module_limit, row_limit}
use Rattle.tables.specs.Accepted.{BelowOrMissing}
use Rattle.sort_steps.specs.Steps.{Numbered, made}

-- the columns fit each other, within the limits: n modules, and records in module order with targets among the modules
pub record Fit (p : Project) (n : ℕ) : Type 0 where
  pub size : modules p ≡ n
  pub kinds : length p.record_kind ≡ length p.record_module
  pub targets : length p.record_target ≡ length p.record_module
  pub rising : Rising p.record_module
  pub within : BelowOrMissing n p.record_target
  pub few : n ≤ module_limit
  pub rows : length p.record_module ≤ row_limit

-- and starts has the first record row of each module, and of one more
pub record Indexed (p : Project) (starts : List ℕ) (n : ℕ) : Type 0 where
  pub fit : Fit p n
  pub firsts : FirstRows p.record_module starts
  pub places : n < length starts

-- the state of the walk as the slices and the counters hold it
abbrev pub held : List ℕ → List ℕ → List ℕ → ℕ → ℕ → St Numbered
held marks numbers sorted placed next = record { marks = marks; made = made numbers sorted placed next }

-- there is a number for each module, room to list those that are not met, and a number for each of these below the mark
pub record Room (marks numbers sorted : List ℕ) (placed next : ℕ) : Type 0 where
  pub places : length numbers ≡ length marks
  pub lists : placed + zeros marks ≤ length sorted
  pub counts : next + zeros marks ≤ missing
