-- A table that is read with the columns of the slices is the project as it is read.
-- Assumes nothing.
use Rattle.std.specs.Prelude.{◌≡◌, ℕ, ◌≤◌, List, length, take}
use mathlib.Core.Path.{sym}
use native.Mathlib.Omega.{arith}
use lib.Seq.{length-take-le}
use Rattle.tables.specs.Refusal.{row_limit}
use Rattle.tables.specs.Accepted.{Accepted}
use Rattle.table.specs.Table.{column_at, table, read, with_records, current}
use Rattle.replacement.specs.Replacement.{as_read}

-- both columns stand at the front of slices with a place for every row that a list can have
pub record Columns (newer targets dependencies read_targets read_dependencies : List ℕ) : Type 0 where
  pub room : length read_targets ≡ row_limit
  pub places : length read_dependencies ≡ row_limit
  pub target : take (length targets) read_targets ≡ as_read newer targets
  pub dependency : take (length dependencies) read_dependencies ≡ as_read newer dependencies

-- the table with the parts of the slices is the project as it is read
pub current-cut : (runtime dynamic : ℕ) (bounds columns importers kinds targets : List ℕ) {read_targets read_dependencies members : List ℕ} {rows : ℕ}
    → Columns (column_at bounds columns 7) targets (column_at bounds columns 12) read_targets read_dependencies
    → rows ≡ length (column_at bounds columns 12) → members ≡ column_at bounds columns 28
    → read (table runtime dynamic bounds columns) importers kinds (take (length targets) read_targets) (take rows read_dependencies) members
    ≡ current (with_records (table runtime dynamic bounds columns) importers kinds targets)
unfolding table read current
current-cut runtime dynamic bounds columns importers kinds targets c e m = rw (e, c.target, c.dependency, m)

-- the parts that an operation lends on have a place a row
module _ (runtime dynamic : ℕ) (bounds columns importers kinds targets : List ℕ) (ok : Accepted (with_records (table runtime dynamic bounds columns) importers kinds targets))
    {read_targets read_dependencies : List ℕ} (made : Columns (column_at bounds columns 7) targets (column_at bounds columns 12) read_targets read_dependencies) where
  -- the slice of targets has room for them
  pub targets-room : length targets ≤ length read_targets
  unfolding table read
  targets-room = omega (arith, made.room, ok.sizes.record_target, ok.sizes.record_module)

  -- its part has a place for each
  pub targets-size : length targets ≡ length (take (length targets) read_targets)
  targets-size = sym (length-take-le (length targets) read_targets targets-room)

  module _ {rows : ℕ} (e : rows ≡ length (column_at bounds columns 12)) where
    -- the slice of dependencies has room for them
    pub dependencies-room : rows ≤ length read_dependencies
    unfolding table read
    dependencies-room = omega (arith, e, made.places, ok.sizes.dependency, ok.sizes.dependency_module)

    -- its part has a place for each
    pub dependencies-size : rows ≡ length (take rows read_dependencies)
    dependencies-size = sym (length-take-le rows read_dependencies dependencies-room)
