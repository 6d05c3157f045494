-- What the rows lead to, once for each module.
-- Assumes nothing.
use Rattle.std.specs.Prelude.{◌≡◌, ℕ, ◌+◌, ◌<◌, ◌≤◌, not, ◌⊎◌, List, length, ◌==◌, slice_index, slice_set}
use mathlib.Core.List.{foldl, flat_map, Memᴰ}
use Rattle.lists.specs.Words.{keep}
use Rattle.tables.specs.Project.{missing}
use Rattle.tables.specs.Readings.{rows_of}
use Rattle.tables.specs.Accepted.{BelowOrMissing}
use Rattle.sort_steps.specs.Steps.{unless_missing}
use Rattle.circle_search.specs.inner.Search.{once}

-- what a row leads to
abbrev pub led_row : List ℕ → ℕ → List ℕ
led_row leads row = unless_missing (slice_index leads row)

-- of a row's targets, r is the one that is not seen from this importer yet, or the mark; they are seen then
pub record Led (targets : List ℕ) (importer : ℕ) (seen : List ℕ) (r : ℕ) (seen' : List ℕ) : Type 0 where
  pub leads : unless_missing r ≡ keep (λ (t : ℕ). not (slice_index seen t == importer + 1)) targets
  pub marks : seen' ≡ foldl (λ (s : List ℕ) (t : ℕ). slice_set s t (importer + 1)) seen targets
  pub within : (r < length seen) ⊎ (r ≡ missing)
  pub few : length targets ≤ 1
  pub inside : (t : ℕ) → Memᴰ t targets → t < length seen

-- the rows of each module lead to its targets, each the first time, among n modules
pub record LedOnce (record_module : List ℕ) (targets : ℕ → List ℕ) (n : ℕ) (column : List ℕ) : Type 0 where
  pub leads : (m : ℕ) → flat_map (led_row column) (rows_of record_module m) ≡ once (targets m)
  pub within : BelowOrMissing n column
