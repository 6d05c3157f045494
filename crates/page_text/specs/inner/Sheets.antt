-- What a page is written from, what is written, and what the functions ask.
-- Assumes nothing.
use Rattle.std.specs.Prelude.{◌≡◌, ℕ, ◌≤◌, Option, Some, None, List, [], ◌++◌, map, length, slice_index, slice_index_or}
use mathlib.Core.List.{flat_map}
use Rattle.lists.specs.Words.{has}
use Rattle.tables.specs.Refusal.{module_limit}
use Rattle.risk_of_orders.specs.inner.Steps.{Order}
use Rattle.page_lines.specs.Line.{line_by}

-- what a page is written from: the modules of the expected order and the others, and for each module of the table a place in both orders and a mark
pub record SheetRows : Type 0 where
  pub expected : List ℕ
  pub others : List ℕ
  pub expected_places : List ℕ
  pub actual_places : List ℕ
  pub plan : List ℕ

-- the line of a module by the places that are written
unfoldable pub line_with : SheetRows → ℕ → List ℕ
line_with s m = line_by m (slice_index s.expected_places m) (slice_index s.actual_places m) (has s.plan m)

-- the lines of the expected order and of the others, in turn
abbrev pub page_with : SheetRows → List ℕ
page_with s = flat_map (line_with s) s.expected ++ flat_map (line_with s) s.others

-- the line of a number, past the last none
abbrev pub numbered_with : SheetRows → ℕ → List ℕ
numbered_with s number = slice_index_or (map (line_with s) (s.expected ++ s.others)) number []

-- the line of a number, or the page where none is given
abbrev pub text_with : SheetRows → Option ℕ → List ℕ
text_with s None = page_with s
text_with s (Some number) = numbered_with s number

-- a place a module in both orders, and a mark
pub record Sheet (expected_places actual_places plan : List ℕ) : Type 0 where
  pub few : length plan ≤ module_limit
  pub expected_rows : length expected_places ≡ length plan
  pub actual_rows : length actual_places ≡ length plan
  pub expected_few : (m : ℕ) → slice_index expected_places m ≤ module_limit
  pub actual_few : (m : ℕ) → slice_index actual_places m ≤ module_limit

-- two orders of n modules
pub record Orders (expected actual : List ℕ) (n : ℕ) : Type 0 where
  pub few : n ≤ module_limit
  pub expected_order : Order expected n
  pub actual_order : Order actual n
