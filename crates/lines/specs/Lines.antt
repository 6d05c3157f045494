-- What the line writer and the list of a set's members leave.
-- Assumes nothing.
use Rattle.std.specs.Prelude.{◌≡◌, cond, List, ◌++◌, ℕ, ◌+◌, ◌<◌, length, leb, Option, Some, None, true}
use Rattle.std.proofs.lemmas.List.Edits.{sets}
use Rattle.lists.specs.Words.{up_to, keep, has}
use Rattle.tables.specs.declared.Refusal.{Refusal}
use Rattle.tables.specs.declared.Refusal.TheVariants.{ListSize}
use Rattle.tables.specs.Answers.{verdict}
use Rattle.tables.specs.Refusal.{module_limit}
use Rattle.form.specs.Form.{spaced, line}

-- a result line: its word, the entry's number where it is an entry's line, the numbers, LF
abbrev pub line_of : List ℕ → List ℕ → List ℕ → List ℕ
line_of word entry numbers = line word (entry ++ numbers)

-- 6 exactly if the slice is too short for the line
abbrev pub line_refusal : List ℕ → List ℕ → Option Refusal
line_refusal out text = verdict None true (leb (length text) (length out))

-- "rising": the members of a set of marks
abbrev pub members : List ℕ → List ℕ
members marks = keep (has marks) (up_to (length marks))

-- 1 for more marks than modules can be, 6 for a slice shorter than the marks
abbrev pub members_refusal : List ℕ → List ℕ → Option Refusal
members_refusal marks out = verdict (cond (leb (length marks) module_limit) None (Some ListSize)) true (leb (length marks) (length out))

-- what is left of the room behind numbers, or it is too short
abbrev pub RoomIs : ℕ → List ℕ → Option ℕ → Type 0
RoomIs room numbers (Some m) = m + length (spaced numbers) ≡ room
RoomIs room numbers None = room < length (spaced numbers)

-- d' is d with xs stored from `at` on, and r the position behind them
pub record PutAt (d : List ℕ) (at : ℕ) (xs d' : List ℕ) (r : ℕ) : Type 0 where
  pub next : r ≡ at + length xs
  pub put : d' ≡ sets d at xs
