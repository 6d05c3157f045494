-- What is left of the circles in two lent slices: the paths one after the other, and their lengths.
-- Assumes nothing.
use Rattle.std.specs.Prelude.{◌≡◌, ℕ, cond, ◌&&◌, List, [], ◌∷◌, ◌++◌, map, length, nat_le, Option, None, Some, Result}
use Rattle.tables.specs.Answers.{answer, after}
use Rattle.tables.specs.declared.Refusal.{Refusal}
use Rattle.tables.specs.declared.Refusal.TheVariants.{ShortForCircles}

-- the paths "one after the other"
abbrev pub joined : List (List ℕ) → List ℕ
joined [] = []
joined (path ∷ paths) = path ++ joined paths

-- "their lengths", the closing module counted
abbrev pub lengths_of : List (List ℕ) → List ℕ
lengths_of = map length

-- 8 "when either slice is too short for all paths"
abbrev pub room_refusal : List (List ℕ) → ℕ → ℕ → Option Refusal
room_refusal circles paths_room lengths_room = cond (nat_le (length (joined circles)) paths_room && nat_le (length circles) lengths_room) None (Some ShortForCircles)

-- "the count of paths", and the slices with them
pub record Gathered (circles : List (List ℕ)) (paths lengths : List ℕ) (r : Result ℕ Refusal) (paths' lengths' : List ℕ) : Type 0 where
  pub answered : r ≡ answer (room_refusal circles (length paths) (length lengths)) (length circles)
  pub listed : paths' ≡ after (room_refusal circles (length paths) (length lengths)) paths (joined circles)
  pub measured : lengths' ≡ after (room_refusal circles (length paths) (length lengths)) lengths (lengths_of circles)
