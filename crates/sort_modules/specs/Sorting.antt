-- What the core functions ask and ensure.
-- Assumes nothing.
use Rattle.std.specs.Prelude.{◌≡◌, ℕ, ◌≤◌, List, ◌++◌, length, drop, replicate}
use Rattle.tables.specs.Project.{Project}
use Rattle.tables.specs.Readings.{modules}

-- the numbers and, from place 0, the sorted list are written, the marks are zeroed, and r is the list's length
pub record Sorted (numbered list marks sorted marks' numbers' sorted' : List ℕ) (r : ℕ) : Type 0 where
  pub count : r ≡ length list
  pub numbers : numbers' ≡ numbered
  pub written : sorted' ≡ list ++ drop (length list) sorted
  pub cleared : marks' ≡ replicate (length marks) 0

-- a place a module in three slices
pub record Sortable (p : Project) (marks numbers sorted : ℕ) : Type 0 where
  pub size : marks ≡ modules p
  pub places : numbers ≡ marks
  pub room : marks ≤ sorted
