-- What the plan from seeds asks.
-- Assumes nothing.
use Rattle.std.specs.Prelude.{◌≡◌, ℕ, List}
use Rattle.tables.specs.Project.{Project}
use Rattle.tables.specs.Readings.{modules}
use Rattle.tables.specs.Accepted.{Below}

-- seeds of an accepted project, and room for its plan
pub record Seeds (p : Project) (seeds : List ℕ) (n : ℕ) : Type 0 where
  pub size : n ≡ modules p
  pub inside : Below n seeds
