-- What standard input asks for: its lines, which of them are names, and the limit.
-- Assumes nothing.
use Rattle.tables.specs.declared.Refusal.{Refusal}
use Rattle.tables.specs.declared.Refusal.TheVariants.{Text, PastSeason}
use Rattle.std.specs.Prelude.{Bool, cond, not, ◌&&◌, List, [], ◌∷◌, ℕ, zero, suc, length, eqb, leb}
use Rattle.lists.specs.Words.{elem}

-- a byte before lines: it opens the first of them
abbrev pub opened : ℕ → List (List ℕ) → List (List ℕ)
opened b [] = (b ∷ []) ∷ []
opened b (l ∷ ls) = (b ∷ l) ∷ ls

-- "a name a line, the last with or without LF": the lines of an input, without their LF, which is 10
unfoldable pub lines_of : List ℕ → List (List ℕ)
lines_of [] = []
lines_of (b ∷ s) = cond (eqb b 10) ([] ∷ lines_of s) (opened b (lines_of s))

-- a name is "1 to 255 bytes long" and doesn't hold "a byte 0"
abbrev pub is_name : List ℕ → Bool
is_name l = leb 1 (length l) && (leb (length l) 255 && not (elem 0 l))

-- a file to open, or a refusal without one
pub data Asked : Type 0 where
  File : List ℕ → Asked
  Refused : Refusal → Asked

-- a line that is no name "counts as 7"
abbrev pub asked_by : List ℕ → Asked
asked_by l = cond (is_name l) (File l) (Refused Text)

-- each line in turn, as many as are left; the one that follows is refused with 11, "before any other number and without opening it", and ends the report
unfoldable pub in_turn : ℕ → List (List ℕ) → List Asked
in_turn left [] = []
in_turn zero (l ∷ ls) = Refused PastSeason ∷ []
in_turn (suc left) (l ∷ ls) = asked_by l ∷ in_turn left ls

-- what an input asks for: "up to 10,000 projects"
unfoldable pub asked : List ℕ → List Asked
asked s = in_turn 10000 (lines_of s)
