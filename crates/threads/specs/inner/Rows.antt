-- The rows of each value of a column, threaded: where they start, and the next of each.
-- Assumes nothing.
use Rattle.std.specs.Prelude.{◌≡◌, ℕ, ◌+◌, ◌-◌, ◌<◌, ◌≤◌, List, length, ◌==◌, ◌≢◌, slice_index}
use Rattle.lists.specs.Words.{count_from, keep}
use Rattle.tables.specs.Project.{missing}

-- r is the first row of m from `row` on, or the end
pub record NextRow (column : List ℕ) (m row r : ℕ) : Type 0 where
  pub after : row ≤ r
  pub within : r ≤ length column
  pub none : (i : ℕ) → row ≤ i → i < r → slice_index column i ≢ m
  pub found : r < length column → slice_index column r ≡ m

-- each row has a next
abbrev pub Nexts : List ℕ → List ℕ → Type 0
Nexts column nexts = (row : ℕ) → row < length column → NextRow column (slice_index column row) (row + 1) (slice_index nexts row)

-- a column that can be threaded through slices of these lengths
pub record Threadable (column heads nexts : List ℕ) : Type 0 where
  pub rows : length column ≤ missing
  pub room : length column ≤ length nexts
  pub froms : (i : ℕ) → i < length column → slice_index column i < length heads

-- `heads` has the first row of each value, `nexts` the next row of the same value
pub record Threaded (column heads nexts : List ℕ) : Type 0 where
  pub room : length column ≤ length nexts
  pub first : (m : ℕ) → m < length heads → NextRow column m 0 (slice_index heads m)
  pub next : Nexts column nexts

-- a column, and how many values have a place in its heads
pub record Column : Type 0 where
  pub values : List ℕ
  pub places : ℕ

-- the rows of m from `row` on, in order
unfoldable pub rows_from : List ℕ → ℕ → ℕ → List ℕ
rows_from column m row = keep (λ (i : ℕ). slice_index column i == m) (count_from row (length column - row))

-- where the rows of m are at `row`: it is one of them, or the end
pub record Standing (column nexts : List ℕ) (m row : ℕ) : Type 0 where
  pub room : length column ≤ length nexts
  pub within : row ≤ length column
  pub mine : row < length column → slice_index column row ≡ m
  pub next : Nexts column nexts
