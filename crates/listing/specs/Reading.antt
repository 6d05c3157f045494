-- What reading a text leaves: 01's 7 (`Text`), or the table that the text renders, and where its names lie.
-- Assumes nothing.
use Rattle.tables.specs.declared.Refusal.{Refusal}
use Rattle.tables.specs.declared.Refusal.TheVariants.{Text}
use Rattle.std.specs.Prelude.{◌≡◌, ℕ, ◌+◌, ◌≤◌, List, [], ◌∷◌, length, drop, None, Result, Ok, Err}
use mathlib.Core.List.{flatten}
use Rattle.tables.specs.Project.{Project}
use Rattle.tables.specs.Answers.{after}
use Rattle.form.specs.Form.{lists}
use Rattle.named_form.specs.NamedForm.{NameList, RendersNamed}
use Rattle.name_list.specs.Lying.{LiesIn}
use Rattle.listing.specs.declared.Reading.{Reading}

-- "text over 65,536 bytes or not the form below" is no text of a project with a list of names or without one
abbrev pub IsText : List ℕ → Project → NameList → Type 0
IsText s p l = (length s ≤ 65536) × RendersNamed s p l

-- the settings of a project
abbrev pub settings_of : Project → List ℕ
settings_of p = p.runtime ∷ p.dynamic ∷ []

-- its columns, in order: those of every list but the settings
abbrev pub columns_of : Project → List (List ℕ)
columns_of p = flatten (drop 1 (lists p))

-- their values, one column after the other
abbrev pub values_of : Project → List ℕ
values_of p = flatten (columns_of p)

-- where each column ends, where the first begins at `at`
unfoldable pub tails : ℕ → List (List ℕ) → List ℕ
tails at [] = []
tails at (c ∷ cs) = (at + length c) ∷ tails (at + length c) cs

-- where each column begins, and where the last ends
abbrev pub bounds_of : Project → List ℕ
bounds_of p = 0 ∷ tails 0 (columns_of p)

-- the answer of reading s: 7 exactly if s is no text of a project, and then the lent slices are as they were; else the settings, the bounds and
-- the columns of the project whose text s is, the columns from place 0, how many values they have, and where the names lie in s
abbrev pub Reads : List ℕ → List ℕ → List ℕ → List ℕ → List ℕ → List ℕ → List ℕ → Result Reading Refusal → Type 0
Reads s settings settings' bounds bounds' columns columns' (Err n) =
    (n ≡ Text) × ((p : Project) (l : NameList) → IsText s p l → ⊥) × (settings' ≡ settings) × (bounds' ≡ bounds) × (columns' ≡ columns)
Reads s settings settings' bounds bounds' columns columns' (Ok r) =
    (p : Project) × (l : NameList) × IsText s p l × (r.values ≡ length (values_of p)) × (settings' ≡ settings_of p) × (bounds' ≡ bounds_of p)
    × (columns' ≡ after None columns (values_of p)) × LiesIn s l r.from r.to
