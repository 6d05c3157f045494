-- What the functions over a table ask and ensure, at its project.
-- Assumes nothing.
use Rattle.std.specs.Prelude.{◌≡◌, ℕ, List}
use Rattle.lists.specs.Words.{ones}
use Rattle.tables.specs.Project.{Project}
use Rattle.tables.specs.Readings.{modules}
use Rattle.risk_of_orders.specs.inner.Steps.{Order}

-- an order of a project's modules, and a place a module
pub record Placed (p : Project) (expecteds : List ℕ) (places : ℕ) : Type 0 where
  pub order : Order expecteds (modules p)
  pub size : places ≡ modules p

-- a set is marked, and the marks are counted
pub record Marked (set marks : List ℕ) (count : ℕ) : Type 0 where
  pub same : marks ≡ set
  pub marked : count ≡ ones marks
