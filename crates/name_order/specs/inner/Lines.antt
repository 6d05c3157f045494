-- Lines of a text, by where they start.
-- Assumes nothing.
use Rattle.std.specs.Prelude.{◌≡◌, ℕ, ◌<◌, cond, List, [], ◌∷◌, length, drop, ◌==◌, slice_index, slice_index_or}
use Rattle.names.specs.Names.{lines_of}

-- what stands before the first LF
unfoldable pub first_line : List ℕ → List ℕ
first_line [] = []
first_line (b ∷ s) = cond (b == 10) [] (b ∷ first_line s)

-- the line that starts at a place
abbrev pub line_at : List ℕ → ℕ → List ℕ
line_at s at = first_line (drop at s)

-- each of the first lines starts at its place
abbrev pub Starts : List ℕ → List ℕ → Type 0
Starts s starts = (m : ℕ) → m < length starts → line_at s (slice_index starts m) ≡ slice_index_or (lines_of s) m []
