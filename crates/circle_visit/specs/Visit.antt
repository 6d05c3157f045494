-- What meeting a module asks, and the state of its search as the slices hold it.
-- Assumes nothing.
use Rattle.std.specs.Prelude.{◌≡◌, ℕ, ◌+◌, ◌-◌, ◌*◌, ◌<◌, ◌≤◌, List, length, take, slice_index, slice_set}
use mathlib.Core.List.{flat_map}
use Rattle.std.proofs.lemmas.List.Edits.{sets}
use Rattle.lists.specs.Words.{zeros, count_from}
use Rattle.tables.specs.Accepted.{BelowOrMissing}
use Rattle.tables.specs.Refusal.{module_limit, row_limit}
use Rattle.circle_rows.specs.Rows.{led_row}
use Rattle.circle_search.specs.inner.Search.{Held}

-- more than paths can be found
abbrev pub path_limit : ℕ
path_limit = 134217728

-- the paths one after the other in a slice, their lengths in another, how many they are, and how many places they take
pub record Listed : Type 0 where
  pub paths : List ℕ
  pub lengths : List ℕ
  pub count : ℕ
  pub used : ℕ

abbrev pub listed : List ℕ → List ℕ → ℕ → ℕ → Listed
listed paths lengths count used = record { paths = paths; lengths = lengths; count = count; used = used }

-- one path more; what has no place is counted and not written
abbrev pub write : Listed → List ℕ → Listed
write a path = record {
  paths = sets a.paths a.used path;
  lengths = slice_set a.lengths a.count (length path);
  count = a.count + 1;
  used = a.used + length path;
}

-- what the rows of a module lead to
unfoldable pub led_by : List ℕ → List ℕ → ℕ → List ℕ
led_by starts led m = flat_map (led_row led) (count_from (slice_index starts m) (slice_index starts (m + 1) - slice_index starts m))

-- the state of the search as the slices hold it
abbrev pub held : List ℕ → List ℕ → ℕ → List ℕ → List ℕ → ℕ → ℕ → Held Listed
held states stack depth paths lengths count used = record { states = states; begun = take depth stack; made = listed paths lengths count used }

-- each of n modules has its rows among those of led, which lead to modules, within the limits
pub record Leads (starts led : List ℕ) (n : ℕ) : Type 0 where
  pub places : n < length starts
  pub ends : (m : ℕ) → m < length starts → slice_index starts m ≤ length led
  pub ordered : (m : ℕ) → m + 1 < length starts → slice_index starts m ≤ slice_index starts (m + 1)
  pub within : BelowOrMissing n led
  pub rows : length led ≤ row_limit
  pub few : n ≤ module_limit

-- there is a place to begin each module that is not begun, and a number for each path that can still be found
pub record Room (states stack : List ℕ) (depth count used : ℕ) : Type 0 where
  pub places : length stack ≡ length states
  pub lists : depth + zeros states ≤ length states
  pub counts : count + row_limit * zeros states < path_limit
  pub short : used ≤ count * 4097
