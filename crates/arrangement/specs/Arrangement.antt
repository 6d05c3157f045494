-- The members of each chunk, sorted by key: "each chunk's result stands at its member rows".
-- Assumes nothing.
use Rattle.std.specs.Prelude.{ℕ, List}
use mathlib.Core.List.{flat_map}
use Rattle.lists.specs.Words.{up_to}
use Rattle.tables.specs.Readings.{members_of}
use Rattle.merge_sort.specs.Sort.{ahead, sort_with}

-- the members of a chunk by key, ties by the lower module row
abbrev pub sorted_members : (ℕ → List ℕ) → List ℕ → List ℕ → ℕ → List ℕ
sorted_members key member_chunk member c = sort_with (ahead key) (members_of member_chunk member c)

-- the member column with each chunk's members sorted, chunk by rising chunk as the member rows stand
unfoldable pub arranged : (ℕ → List ℕ) → ℕ → List ℕ → List ℕ → List ℕ
arranged key chunks member_chunk member = flat_map (sorted_members key member_chunk member) (up_to chunks)
