-- The text form of a project with or without the list `name`, which follows the seeds.
-- Assumes nothing.
use Rattle.std.specs.Prelude.{◌≡◌, Bool, true, List, [], ◌∷◌, ◌++◌, ℕ}
use Rattle.tables.specs.Project.{Project}
use Rattle.tables.specs.Readings.{modules}
use Rattle.form.specs.Form.{bytes, has_text, render}
use Rattle.names.specs.Names.{names_fit}

-- what a text has behind the seeds: no list, or a list with these lines, an LF after each
pub data NameList : Type 0 where
  without : NameList
  list : List ℕ → NameList

-- "a list `name` follows the seeds, one line .. a module", and an empty line
abbrev pub name_section : NameList → List ℕ
name_section without = []
name_section (list s) = bytes "name" ++ 10 ∷ (s ++ 10 ∷ [])

-- "names fewer or more than the modules break the form": a list of n modules
abbrev pub list_fits : ℕ → NameList → Bool
list_fits n without = true
list_fits n (list s) = names_fit n s

-- s is the text of the table p with this list
unfoldable pub RendersNamed : List ℕ → Project → NameList → Type 0
RendersNamed s p l = (has_text p ≡ true) × (list_fits (modules p) l ≡ true) × (render p ++ name_section l ≡ s)

-- the names as the library takes them: "no name at all" where there is no list
abbrev pub lent_names : NameList → List ℕ
lent_names without = []
lent_names (list s) = s
