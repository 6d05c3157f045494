-- The names of a project's modules: lines of bytes, an LF (10) after each.
-- Assumes nothing.
use Rattle.std.specs.Prelude.{ℕ, Bool, true, cond, ◌&&◌, ◌||◌, List, [], ◌∷◌, length, ◌==◌, nat_eq, nat_le, slice_index_or}
use Rattle.lists.specs.Words.{is_zero, keep, every}
use Rattle.tables.specs.Refusal.{row_limit}

-- a byte before the first of some lines
abbrev pub onto : ℕ → List (List ℕ) → List (List ℕ)
onto b [] = (b ∷ []) ∷ []
onto b (l ∷ ls) = (b ∷ l) ∷ ls

-- the lines of a text, each without its LF; what stands behind the last LF is a line too
unfoldable pub lines_of : List ℕ → List (List ℕ)
lines_of [] = []
lines_of (b ∷ s) = cond (b == 10) ([] ∷ lines_of s) (onto b (lines_of s))

-- an LF stands behind each line
unfoldable pub ended : List ℕ → Bool
ended [] = true
ended (b ∷ []) = b == 10
ended (b ∷ c ∷ s) = ended (c ∷ s)

-- "printable bytes are 33 to 126"
abbrev pub printable : ℕ → Bool
printable b = nat_le 33 b && nat_le b 126

-- a name: "1 to 64 printable bytes"
abbrev pub is_name : List ℕ → Bool
is_name l = (nat_le 1 (length l) && nat_le (length l) 64) && every printable l

-- the form: n lines, each of them a name
unfoldable pub names_fit : ℕ → List ℕ → Bool
names_fit n s = ended s && (length (lines_of s) == n && every is_name (lines_of s))

-- 2, the names of n modules: "no name at all", or of the form
unfoldable pub names_in : ℕ → List ℕ → Bool
names_in n s = is_zero (length s) || names_fit n s

-- how many lines end
unfoldable pub line_ends : List ℕ → ℕ
line_ends s = length (keep (λ (b : ℕ). nat_eq b 10) s)

-- 1, the names: as many lines as a list may have rows
unfoldable pub names_sized : List ℕ → Bool
names_sized s = nat_le (line_ends s) row_limit

-- "`~` at the start stands for byte 0"
abbrev pub start_byte : ℕ → ℕ
start_byte b = cond (b == 126) 0 b

-- the name that a line is
abbrev pub turned : List ℕ → List ℕ
turned [] = []
turned (b ∷ l) = start_byte b ∷ l

-- the name of module m
unfoldable pub name_of : List ℕ → ℕ → List ℕ
name_of s m = turned (slice_index_or (lines_of s) m [])
