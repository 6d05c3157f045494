-- What judging a plan asks.
-- Assumes nothing.
use Rattle.std.specs.Prelude.{ℕ, List}
use Rattle.tables.specs.Project.{Project}
use Rattle.tables.specs.Readings.{modules}
use Rattle.tables.specs.Accepted.{Below}
use Rattle.wrap_rules.specs.inner.Passes.{Marked}

-- seeds of an accepted project, and a plan
pub record Proposed (p : Project) (seeds plan : List ℕ) : Type 0 where
  pub inside : Below (modules p) seeds
  pub marked : Marked p plan
