-- What the operation `import_circles` promises.
-- Assumes nothing.
use Rattle.std.specs.Prelude.{◌≡◌, ℕ, List, length, Option, None, Some, Result}
use Rattle.tables.specs.Answers.{answer, after}
use Rattle.tables.specs.declared.Refusal.{Refusal}
use Rattle.table.specs.Table.{Lent}
use Rattle.circle_gathering.specs.Gathering.{joined, lengths_of, room_refusal}
use Rattle.import_circles.specs.OfProject.{circles_of}

-- what refuses a project, else what refuses its circles
abbrev pub refused_or : Option Refusal → Option Refusal → Option Refusal
refused_or None room = room
refused_or (Some r) room = Some r

-- what refuses a call: what refuses the project, else 8 "when either slice is too short for all paths"
abbrev pub circles_verdict : Lent → ℕ → ℕ → Option Refusal
circles_verdict t paths_room lengths_room = refused_or t.refused (room_refusal (circles_of t.project) paths_room lengths_room)

-- a call's answer, "the count of paths", and the slices that it leaves: the paths one after the other, and "their lengths in another"
pub record ImportCircles (t : Lent) (paths lengths : List ℕ) (r : Result ℕ Refusal) (paths' lengths' : List ℕ) : Type 0 where
  pub answered : r ≡ answer (circles_verdict t (length paths) (length lengths)) (length (circles_of t.project))
  pub listed : paths' ≡ after (circles_verdict t (length paths) (length lengths)) paths (joined (circles_of t.project))
  pub measured : lengths' ≡ after (circles_verdict t (length paths) (length lengths)) lengths (lengths_of (circles_of t.project))
