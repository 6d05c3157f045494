-- What the splitting of an input keeps and answers, byte by byte.
-- Assumes nothing.
use Rattle.tables.specs.declared.Refusal.{Refusal}
use Rattle.tables.specs.declared.Refusal.TheVariants.{Text, PastSeason}
use Rattle.std.specs.Prelude.{true, false, cond, ◌||◌, List, [], ◌∷◌, Option, None, Some, Result, Ok, Err, ℕ, ◌+◌, ◌-◌, set, take, eqb, ltb}
use Rattle.file_names.specs.declared.Names.{Names}
use Rattle.file_names.specs.declared.Step.{Step}
use Rattle.file_names.specs.Asked as A

-- before the first byte
abbrev pub begun : Names
begun = record { left = 10000; length = 0; zero = false; over = false }

-- at the end of a line: its file, or 7
unfoldable pub turn_of_line : Names → Result ℕ Refusal
turn_of_line n = cond n.zero (Err Text) (cond (eqb n.length 0) (Err Text) (cond (ltb 255 n.length) (Err Text) (Ok n.length)))

-- at a byte: 11 as soon as one follows the last line that may come; else what an LF ends
unfoldable pub turn_at : Names → ℕ → Option (Result ℕ Refusal)
turn_at n b = cond n.over None (cond (eqb n.left 0) (Some (Err PastSeason)) (cond (eqb b 10) (Some (turn_of_line n)) None))

-- what is known after a byte
unfoldable pub names_after : Names → ℕ → Names
names_after n b =
    cond n.over n
    (cond (eqb n.left 0) (record { left = 0; length = 0; zero = false; over = true })
    (cond (eqb b 10) (record { left = n.left - 1; length = 0; zero = false; over = false })
    (record { left = n.left; length = cond (ltb 255 n.length) n.length (n.length + 1); zero = n.zero || eqb b 0; over = false })))

-- the bytes kept after a byte: a line's, at their places, as far as there is one
unfoldable pub kept_after : Names → ℕ → List ℕ → List ℕ
kept_after n b name = cond (eqb b 10) name (cond (ltb n.length 255) (set name n.length b) name)

-- a step: what is known after a byte, and what is due
abbrev pub stepped : Names → ℕ → Step
stepped n b = record { names = names_after n b; turn = turn_at n b }

-- at the end of the input: a last line without its LF
unfoldable pub finished : Names → Option (Result ℕ Refusal)
finished n = cond (eqb n.length 0) None (Some (turn_of_line n))

-- what a turn asks for, if there is one, with the bytes kept
abbrev pub due : Option (Result ℕ Refusal) → List ℕ → List A.Asked
due None name = []
due (Some (Ok n)) name = A.File (take n name) ∷ []
due (Some (Err n)) name = A.Refused n ∷ []
