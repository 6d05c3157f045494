-- "A page for the workshop wall": the lines of an entry, over its two sensitive orders and the planned modules.
-- Assumes nothing.
use Rattle.std.specs.Prelude.{ℕ, zero, suc, ◌*◌, Bool, cond, Option, Some, None, List, [], map, slice_index_or}
use mathlib.Core.List.{flat_map}
use Rattle.lists.specs.Words.{elem}
use Rattle.risk_of_orders.specs.Risk.{place}
use Rattle.page_lines.specs.Line.{line_by}
use Rattle.page_rows.specs.Rows.{modules_of}

-- a module's place in a sensitive order, from 1; 0 "where there is none"
abbrev pub place_in : List ℕ → ℕ → ℕ
place_in order m = cond (elem m order) (suc (place m order)) zero

module _ (expected actual : List ℕ) (planned : ℕ → Bool) where
  -- the line of a module
  unfoldable pub line_of : ℕ → List ℕ
  line_of m = line_by m (place_in expected m) (place_in actual m) (planned m)

  -- "One line, called by its .. number from 0"; past the last there is none
  unfoldable pub line_at : ℕ → List ℕ
  line_at number = slice_index_or (map line_of (modules_of expected actual)) number []

  -- the page: its lines in turn
  unfoldable pub page_by : List ℕ
  page_by = flat_map line_of (modules_of expected actual)

  -- one line by its number, or the page where no number is given
  abbrev pub text_by : Option ℕ → List ℕ
  text_by None = page_by
  text_by (Some number) = line_at number

-- how many bytes a page of so many modules has room for, or a line
abbrev pub text_room : ℕ → Option ℕ → ℕ
text_room modules None = 41 * modules
text_room modules (Some number) = 41
