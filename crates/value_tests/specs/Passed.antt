-- What has passed before test 4 is made.
-- Assumes nothing.
use Rattle.std.specs.Prelude.{◌≡◌, true}
use Rattle.tables.specs.Project.{Project}
use Rattle.tables.specs.Refusal.{sizes_fit, values_fit, rows_rise}

-- a project that passed tests 1 to 3
pub record Passed (p : Project) : Type 0 where
  pub sizes : sizes_fit p ≡ true
  pub values : values_fit p ≡ true
  pub rises : rows_rise p ≡ true
