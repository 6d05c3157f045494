-- The report over no name is its closing line alone.
-- Assumes nothing.
use Rattle.std.specs.Prelude.{◌≡◌, ℕ, List, [], ◌∷◌, ◌++◌, Result}
use mathlib.Core.Path.{refl}
use mathlib.Core.List.{flat_map}
use Rattle.form.specs.Form.{bytes, line, spaced, field, number, spell}
use Rattle.file_names.specs.Asked.{lines_of, in_turn, asked}
use Rattle.tables.specs.declared.Refusal.{Refusal}
use Rattle.share_totals.specs.declared.Share.{Share}
use Rattle.share_totals.specs.Sums.{totals_of}
use Rattle.report_lines.specs.Report.{report}

-- "`total 0 0 0 0 0`"
pub no_name : (file : List ℕ → Result Share Refusal) → report file [] ≡ bytes "total 0 0 0 0 0" ++ 10 ∷ []
unfolding report flat_map asked in_turn lines_of totals_of line spaced field number spell
no_name file = refl
