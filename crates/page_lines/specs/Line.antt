-- A line of the workshop page: "lines of 40 characters and an LF".
-- Assumes nothing.
use Rattle.std.specs.Prelude.{ℕ, zero, suc, ◌-◌, Bool, cond, List, [], ◌∷◌, ◌++◌, length, replicate, ℤ, pos, negsuc, ◌-ℤ◌}
use Rattle.form.specs.Form.{bytes, number}

-- "right-aligned in 8"
unfoldable pub right : List ℕ → List ℕ
right text = replicate (8 - length text) 32 ++ text

-- a difference of places, with a minus sign where it is negative
unfoldable pub signed : ℤ → List ℕ
signed (pos n) = number n
signed (negsuc n) = bytes "-" ++ number (suc n)

-- a place, "`-` where there is none": it is given from 1 and "counts from 0"
unfoldable pub place_by : ℕ → List ℕ
place_by zero = bytes "-"
place_by (suc place) = number place

-- "the actual place minus expected place, .. 0 when equal, `-` where either is absent"
unfoldable pub shift_by : ℕ → ℕ → List ℕ
shift_by zero actual = bytes "-"
shift_by (suc expected) zero = bytes "-"
shift_by (suc expected) (suc actual) = signed (pos actual -ℤ pos expected)

-- "module, expected place, actual place and shift, each right-aligned in 8; then five spaces, and three characters, `yes` or ` no`"
unfoldable pub line_by : ℕ → ℕ → ℕ → Bool → List ℕ
line_by m expected actual planned =
    right (number m) ++ right (place_by expected) ++ right (place_by actual) ++ right (shift_by expected actual)
    ++ replicate 5 32 ++ cond planned (bytes "yes") (bytes " no") ++ 10 ∷ []
