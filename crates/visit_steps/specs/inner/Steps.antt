-- What the steps of a visit ask and ensure, over columns alone.
-- Assumes nothing.
use Rattle.std.specs.Prelude.{◌≡◌, ℕ, ◌+◌, ◌-◌, ◌<◌, ◌≤◌, Bool, true, false, cond, List, [], ◌∷◌, length, take, drop, ◌==◌, slice_index, slice_index_or, slice_set}
use mathlib.Core.List.{flat_map}
use Rattle.lists.specs.Words.{is_zero, count_from}
use Rattle.tables.specs.Project.{missing}
use Rattle.visit_steps.specs.Hosts.{noted}

-- `starts` has the first row of each of n places, and the end, among so many rows
pub record Spans (starts : List ℕ) (rows n : ℕ) : Type 0 where
  pub room : n < length starts
  pub rising : (m : ℕ) → m < n → slice_index starts m ≤ slice_index starts (m + 1)
  pub within : (m : ℕ) → m < n → slice_index starts (m + 1) ≤ rows

-- the place that a row of a column names: none, if it is the mark
abbrev pub named : List ℕ → ℕ → List ℕ
named column row = cond (slice_index column row == missing) [] (slice_index column row ∷ [])

-- what the rows of m name
unfoldable pub leads : List ℕ → List ℕ → ℕ → List ℕ
leads starts column m = flat_map (named column) (count_from (slice_index starts m) (slice_index starts (m + 1) - slice_index starts m))

-- the rows of m, as a part of a column
abbrev pub part : List ℕ → List ℕ → ℕ → List ℕ
part starts column m = take (slice_index starts (m + 1) - slice_index starts m) (drop (slice_index starts m) column)

-- a visit of m is passed: m was met before
pub record Passed (marks : List ℕ) (m : ℕ) (marks' : List ℕ) : Type 0 where
  pub met : is_zero (slice_index_or marks m 1) ≡ false
  pub same : marks' ≡ marks

-- a visit of m begins: m was not met, it is marked, and its rows are followed
pub record Entered (starts column marks : List ℕ) (m : ℕ) (marks' rows : List ℕ) : Type 0 where
  pub fresh : is_zero (slice_index_or marks m 1) ≡ true
  pub marked : marks' ≡ slice_set marks m 1
  pub followed : rows ≡ part starts column m

-- what executing modules makes, as the slices hold it: the modules listed, which stand below `count`, and the hosts
pub record Filling : Type 0 where
  pub order : List ℕ
  pub count : ℕ
  pub hosts : List ℕ

abbrev pub filling : List ℕ → List ℕ → ℕ → Filling
filling order hosts count = record { order = order; count = count; hosts = hosts }

-- one more is listed, and its host noted
abbrev pub fills : ℕ → Filling → ℕ → Filling
fills host f m = record { order = slice_set f.order f.count m; count = f.count + 1; hosts = noted host f.hosts m }

-- a module executes in a way, as `ways` says
abbrev pub in_way : ℕ → List ℕ → ℕ → Bool
in_way way ways m = slice_index ways m == way
