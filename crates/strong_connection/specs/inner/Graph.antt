-- Two columns as a directed graph.
-- Assumes nothing.
use Rattle.std.specs.Prelude.{◌≡◌, ℕ, ◌<◌, ◌≤◌, List, length, slice_index}
use Rattle.tables.specs.Readings.{values_of}

-- two columns of one length, each row an edge between two of n places
pub record Graph (from to : List ℕ) (n : ℕ) : Type 0 where
  pub lengths : length to ≡ length from
  pub froms : (i : ℕ) → i < length from → slice_index from i < n
  pub tos : (i : ℕ) → i < length from → slice_index to i < n

-- rows to places below n, threaded by their sources through heads for these and maybe for more. A source may be beyond them
pub record Linked (from to : List ℕ) (n heads : ℕ) : Type 0 where
  pub lengths : length to ≡ length from
  pub tos : (i : ℕ) → i < length from → slice_index to i < n
  pub room : n ≤ heads

-- the columns of a graph, and how many places it has
pub record EdgeColumns : Type 0 where
  pub from : List ℕ
  pub to : List ℕ
  pub places : ℕ

-- what the edges of a place lead to, in order
abbrev pub successors : EdgeColumns → ℕ → List ℕ
successors g = values_of g.from g.to

-- the same edges the other way round
abbrev pub backward : EdgeColumns → EdgeColumns
backward g = record { from = g.to; to = g.from; places = g.places }
