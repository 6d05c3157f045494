-- What the functions on orders ask and ensure.
-- Assumes nothing.
use Rattle.std.specs.Prelude.{◌≡◌, ℕ, ◌≤◌, Bool, List, ◌++◌, length, take, drop, slice_index}
use Rattle.lists.specs.Words.{is_zero}
use Rattle.tables.specs.Refusal.{module_limit}
use Rattle.tables.specs.Accepted.{Below}
use Rattle.risk_of_orders.specs.inner.Steps.{Ranked}
use Rattle.page_rows.specs.Rows.{others_of}

-- m has no place
abbrev pub unplaced : List ℕ → ℕ → Bool
unplaced places m = is_zero (slice_index places m)

-- members of n modules, not too many to count
pub record Members (order : List ℕ) (n : ℕ) : Type 0 where
  pub rows : Below n order
  pub few : length order ≤ module_limit

-- a list is written to a slice from place 0 and the rest stays, and r is the list's length
pub record Listed (list old new : List ℕ) (r : ℕ) : Type 0 where
  pub count : r ≡ length list
  pub written : new ≡ list ++ drop r old

-- the places in both orders, and the others, of which there are r
pub record Laid (expected actual expected_places actual_places others : List ℕ) (r : ℕ) : Type 0 where
  pub expected_ranks : Ranked expected expected_places
  pub actual_ranks : Ranked actual actual_places
  pub rest : take r others ≡ others_of expected actual
  pub room : r ≤ length others
