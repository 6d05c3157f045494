-- What the row look-ups ask and answer.
-- Assumes nothing.
use Rattle.std.specs.Prelude.{ℕ, ◌+◌, ◌<◌, ◌≤◌, cond, List, length, nat_lt, slice_index}

-- no row is below an earlier one
unfoldable pub Rising : List ℕ → Type 0
Rising xs = (p q : ℕ) → p ≤ q → q < length xs → slice_index xs p ≤ slice_index xs q

-- r is the first row of a rising column that is at least x
pub record FirstRow (xs : List ℕ) (x r : ℕ) : Type 0 where
  pub within : r ≤ length xs
  pub below : (i : ℕ) → i < r → slice_index xs i < x
  pub above : (i : ℕ) → r ≤ i → i < length xs → x ≤ slice_index xs i

-- each place of starts has its value's first row
pub record FirstRows (xs starts : List ℕ) : Type 0 where
  pub firsts : (x : ℕ) → x < length starts → FirstRow xs x (slice_index starts x)

-- the greater of two
abbrev pub greater_of : ℕ → ℕ → ℕ
greater_of a b = cond (nat_lt a b) b a

-- of the rows before n: before a start are rows of lower values alone, and each row is before the next value's start
pub record RowEnds (xs starts : List ℕ) (n : ℕ) : Type 0 where
  pub within : (x : ℕ) → slice_index starts x ≤ n
  pub below : (x i : ℕ) → i < slice_index starts x → slice_index xs i < x
  pub behind : (i : ℕ) → i < n → slice_index xs i + 1 < length starts → i < slice_index starts (slice_index xs i + 1)
