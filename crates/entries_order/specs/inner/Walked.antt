-- What the core functions ask and ensure.
-- Assumes nothing.
use Rattle.std.specs.Prelude.{◌≡◌, ℕ, ◌≤◌, List, ◌++◌, length, drop}
use Rattle.tables.specs.Project.{Project}
use Rattle.tables.specs.Readings.{modules}
use Rattle.tables.specs.Accepted.{Below}

-- a list is written to a slice from place 0 and the rest stays, and r is the list's length
pub record Written (list order order' : List ℕ) (r : ℕ) : Type 0 where
  pub count : r ≡ length list
  pub written : order' ≡ list ++ drop (length list) order

-- rows of a project, and a place a module in a slice
pub record Entered (p : Project) (entries : List ℕ) (order : ℕ) : Type 0 where
  pub inside : Below (modules p) entries
  pub room : modules p ≤ order
