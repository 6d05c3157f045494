-- The lines of a season's report, and the report.
-- Assumes nothing.
use Rattle.std.specs.Prelude.{◌≡◌, ℕ, List, [], ◌∷◌, ◌++◌, map, length, Result, Ok, Err}
use mathlib.Core.List.{flat_map}
use Rattle.tables.specs.Answers.{number, answer, after}
use Rattle.tables.specs.declared.Refusal.{Refusal}
use Rattle.form.specs.Form.{bytes, line}
use Rattle.lines.specs.Lines.{line_refusal}
use Rattle.file_names.specs.Asked as F
use Rattle.share_totals.specs.declared.Share.{Share}
use Rattle.share_totals.specs.Sums.{Totals, totals_of, total_numbers}

-- "each prints `share` and these four numbers"; "a refused project prints `refused` and its number"
abbrev pub outcome_line : Result Share Refusal → List ℕ
outcome_line (Ok s) = line (bytes "share") (s.eligible ∷ s.planned ∷ s.quotient ∷ s.remainder ∷ [])
outcome_line (Err r) = line (bytes "refused") (number r ∷ [])

-- "the closing line is `total`"
abbrev pub total_line : Totals → List ℕ
total_line t = line (bytes "total") (total_numbers t)

-- the outcome of what is asked for, where `file` has the outcome of each file by its name
abbrev pub outcome_for : (List ℕ → Result Share Refusal) → F.Asked → Result Share Refusal
outcome_for file (F.File name) = file name
outcome_for file (F.Refused r) = Err r

-- the report over an input: a line for each project, then the totals
unfoldable pub report : (List ℕ → Result Share Refusal) → List ℕ → List ℕ
report file s = let os = map (outcome_for file) (F.asked s) in flat_map outcome_line os ++ total_line (totals_of os)

-- a line put into a slice: 6 exactly if it is too short, else the line from place 0, and its length
pub record Put (text out : List ℕ) (r : Result ℕ Refusal) (out' : List ℕ) : Type 0 where
  pub answered : r ≡ answer (line_refusal out text) (length text)
  pub written : out' ≡ after (line_refusal out text) out text
