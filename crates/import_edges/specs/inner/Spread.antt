-- Sets that are closed along rows: with the value of a row in one column, its value in another.
-- Assumes nothing.
use Rattle.std.specs.Prelude.{◌≡◌, ℕ, ◌<◌, ◌≤◌, true, cond, List, map, length, ◌≢◌, slice_index}
use Rattle.lists.specs.Words.{up_to, has}
use Rattle.walk.specs.Close.{Within}
use Rattle.tables.specs.Project.{Project, missing}
use Rattle.tables.specs.Readings.{is_import}
use Rattle.tables.specs.Refusal.{module_limit}
use Rattle.strong_connection.specs.inner.Graph.{EdgeColumns}

-- one row
abbrev pub AlongRow : List ℕ → List ℕ → List ℕ → ℕ → Type 0
AlongRow from to M row = has M (slice_index from row) ≡ true → slice_index to row < length M → has M (slice_index to row) ≡ true

-- each row
unfoldable pub Along : List ℕ → List ℕ → List ℕ → Type 0
Along from to M = (row : ℕ) → row < length from → AlongRow from to M row

-- L lies within every set that holds S and is closed along the rows
unfoldable pub Under : List ℕ → List ℕ → List ℕ → List ℕ → Type 0
Under from to S L = (M : List ℕ) → length M ≡ length S → Within S M → Along from to M → Within L M

-- t is the least set that holds s and is closed along the rows
pub record Spreads (from to s t : List ℕ) : Type 0 where
  pub len : length t ≡ length s
  pub holds : Within s t
  pub along : Along from to t
  pub under : Under from to s t

-- marks to spread a set on from: closed along a graph's edges, and within what the set leads to
pub record Spreadable (g : EdgeColumns) (s t : List ℕ) : Type 0 where
  pub few : length s ≤ module_limit
  pub size : length s ≡ g.places
  pub len : length t ≡ length s
  pub along : Along g.from g.to t
  pub under : Under g.from g.to s t

-- the targets of the kind 0 records, the mark in the other rows
unfoldable pub import_targets : List ℕ → List ℕ → List ℕ
import_targets kind target = map (λ (row : ℕ). cond (is_import (slice_index kind row)) (slice_index target row) missing) (up_to (length target))

-- the first `count` places of two columns are the first `rows` rows of two others, but those without a target
pub record EdgesBelow (record_module record_target : List ℕ) (rows : ℕ) (importers targets : List ℕ) (count : ℕ) : Type 0 where
  pub few : count ≤ rows
  pub row : (i : ℕ) → i < count → (row : ℕ) × (row < rows) × (slice_index record_module row ≡ slice_index importers i) × (slice_index record_target row ≡ slice_index targets i) × (slice_index record_target row ≢ missing)
  pub edge : (row : ℕ) → row < rows → (slice_index record_target row ≢ missing) → (i : ℕ) × (i < count) × (slice_index importers i ≡ slice_index record_module row) × (slice_index targets i ≡ slice_index record_target row)

-- all rows
abbrev pub Edges : List ℕ → List ℕ → List ℕ → List ℕ → ℕ → Type 0
Edges record_module record_target importers targets count = EdgesBelow record_module record_target (length record_module) importers targets count

-- the targets of a project's records, the mark where a record is no import
abbrev pub record_targets : Project → List ℕ
record_targets p = import_targets p.record_kind p.record_target

-- a project's import records as edges
abbrev pub EdgesOf : Project → List ℕ → List ℕ → ℕ → Type 0
EdgesOf p from to count = Edges p.record_module (record_targets p) from to count
