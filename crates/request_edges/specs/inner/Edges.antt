-- Edges made of rows.
-- Assumes nothing.
use Rattle.std.specs.Prelude.{◌≡◌, ℕ, ◌+◌, ◌<◌, ◌≤◌, cond, not, ◌&&◌, List, map, length, slice_index, slice_index_or}
use Rattle.lists.specs.Words.{is_zero, up_to}
use Rattle.tables.specs.Project.{missing}
use Rattle.tables.specs.Refusal.{row_limit}

-- there are no more edges, and no place has a greater number
abbrev pub edge_limit : ℕ
edge_limit = 1048576

-- the numbers below n, a place each
unfoldable pub numbered : ℕ → List ℕ
numbered n = map (λ (i : ℕ). i) (up_to n)

-- a number, or the mark where one of two marks is 0
abbrev pub choice : ℕ → ℕ → ℕ → ℕ
choice first second m = cond (not (is_zero first) && not (is_zero second)) m missing

-- each place's number where it is in two sets, else the mark
unfoldable pub chosen : List ℕ → List ℕ → List ℕ
chosen first second = map (λ (m : ℕ). choice (slice_index first m) (slice_index second m) m) (up_to (length first))

-- an edge from u to v that a row of two columns gives: its numbers, after a and after b
pub record RowsBelow (sources : List ℕ) (a : ℕ) (targets : List ℕ) (b : ℕ) (rows : ℕ) (u v : ℕ) : Type 0 where
  pub row : ℕ
  pub there : row < rows
  pub known : slice_index_or sources row 0 < row_limit
  pub aimed : slice_index_or targets row 0 < row_limit
  pub source : slice_index_or sources row 0 + a ≡ u
  pub target : slice_index_or targets row 0 + b ≡ v

abbrev pub Rows : List ℕ → ℕ → List ℕ → ℕ → ℕ → ℕ → Type 0
Rows sources a targets b u v = RowsBelow sources a targets b (length sources) u v

-- a list of edges, and how many it has room for
pub record EdgeRows : Type 0 where
  pub from : List ℕ
  pub to : List ℕ
  pub room : ℕ

-- room for so many edges more
abbrev pub Room : ℕ → EdgeRows → Type 0
Room rows e = length e.from + rows ≤ e.room

-- an edge for each row of two columns, after the places a and b, can be added
pub record Addable (sources targets : List ℕ) (a b : ℕ) (e : EdgeRows) : Type 0 where
  pub rows : length targets ≡ length sources
  pub room : Room (length sources) e
  pub source : a ≤ edge_limit
  pub target : b ≤ edge_limit

-- an edge from u to v is in the list
abbrev pub In : EdgeRows → ℕ → ℕ → Type 0
In e u v = (i : ℕ) × (i < length e.from) × (slice_index e.from i ≡ u) × (slice_index e.to i ≡ v)

-- the edges E, at most so many as there are rows, are added behind the earlier ones, which keep their places
pub record Adds (E : ℕ → ℕ → Type 0) (rows : ℕ) (e e' : EdgeRows) : Type 0 where
  pub room : e'.room ≡ e.room
  pub few : length e'.from ≤ length e.from + rows
  pub kept : length e.from ≤ length e'.from
  pub front : (i : ℕ) → i < length e.from → (slice_index e'.from i ≡ slice_index e.from i) × (slice_index e'.to i ≡ slice_index e.to i)
  pub each : (i : ℕ) → length e.from ≤ i → i < length e'.from → E (slice_index e'.from i) (slice_index e'.to i)
  pub new : (u v : ℕ) → E u v → In e' u v
