-- What the page program prints.
-- Assumes nothing.
use Rattle.std.specs.Prelude.{◌≡◌, ℕ, ◌⊎◌, List, [], ◌∷◌, Option, None, Some}
use mathlib.Core.List.{flat_map}
use Rattle.tables.specs.Project.{Project}
use Rattle.tables.specs.Refusal.{refusal}
use Rattle.tables.specs.Answers.{number}
use Rattle.tables.specs.declared.Refusal.{Refusal}
use Rattle.table.specs.Table.{Lent, current}
use Rattle.arrangement.specs.OfProject.{named}
use Rattle.wrap_rules.specs.Plan.{roots}
use Rattle.form.specs.Form.{bytes, line}
use Rattle.named_form.specs.NamedForm.{NameList, lent_names}
use Rattle.listing.specs.Reading.{IsText}
use Rattle.wall_line.specs.Promise.{page_of}

-- "the pages of the analysed entries in row order with nothing between"
unfoldable pub pages_of : Project → List ℕ
pages_of p = flat_map (page_of p) (roots p)

-- "refuses as there": the line `refused` and the number alone
abbrev pub refused_line : ℕ → List ℕ
refused_line n = line (bytes "refused") (n ∷ [])

-- what is printed of a project with these pages: them, or what refuses it
abbrev pub printed : Option Refusal → List ℕ → List ℕ
printed None pages = pages
printed (Some r) pages = refused_line (number r)

-- what is printed of a project that was lent: its pages, or its refusal
unfoldable pub output_of : Lent → List ℕ
output_of t = printed t.refused (pages_of t.project)

-- the whole output for a text: that of the project whose text it is, as it is read with its names, or `refused 7` where it is no project's
abbrev pub TextOutput : List ℕ → List ℕ → Type 0
TextOutput s out =
    ((p : Project) × (l : NameList) × IsText s p l × (out ≡ output_of (record { refused = refusal p; project = named (current p) (lent_names l) })))
    ⊎ (((p : Project) (l : NameList) → IsText s p l → ⊥) × (out ≡ refused_line 7))
