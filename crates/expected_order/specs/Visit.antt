-- What the core functions ask and ensure.
-- Assumes nothing.
use Rattle.std.specs.Prelude.{◌≡◌, ℕ, ◌<◌, ◌≤◌, List, ◌++◌, length, drop, replicate}
use Rattle.tables.specs.Project.{Project}
use Rattle.tables.specs.Readings.{modules}

-- a list is written to a slice from place 0 and the rest stays, the marks are zeroed, and r is the list's length
pub record Listed (list marks order marks' order' : List ℕ) (r : ℕ) : Type 0 where
  pub count : r ≡ length list
  pub written : order' ≡ list ++ drop (length list) order
  pub cleared : marks' ≡ replicate (length marks) 0

-- a row of a project, and a place a module in two slices
pub record Rooted (p : Project) (root marks order : ℕ) : Type 0 where
  pub size : marks ≡ modules p
  pub within : root < marks
  pub room : marks ≤ order
