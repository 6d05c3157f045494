-- A part of a text.
-- Assumes nothing.
use Rattle.std.specs.Prelude.{cond, List, ℕ, ◌-◌, length, take, drop, leb}

-- from one position to another, or all of it where they aren't in order or the second is past the end
unfoldable pub part_of : List ℕ → ℕ → ℕ → List ℕ
part_of text from to = cond (leb to (length text)) (cond (leb from to) (take (to - from) (drop from text)) text) text
