-- The page of an entry by grounds and a plan that were made before, and what its operation promises.
-- Assumes nothing.
use Rattle.std.specs.Prelude.{◌≡◌, ℕ, ◌*◌, ◌&&◌, List, length, take, nat_le, Option, Result}
use Rattle.tables.specs.Project.{Project}
use Rattle.tables.specs.Readings.{modules, is_analysed}
use Rattle.tables.specs.Answers.{verdict, answer, after}
use Rattle.tables.specs.declared.Refusal.{Refusal}
use Rattle.table.specs.Table.{Lent}
use Rattle.entry_pages.specs.Marked.{marked_page}

-- the page of an entry where the first grounds and marks of a plan, one a module, say which modules are sensitive and planned
unfoldable pub page_with : Project → List ℕ → List ℕ → ℕ → List ℕ
page_with p grounds plan root = marked_page p (take (modules p) grounds) (take (modules p) plan) root

-- what refuses a call: 5 for an entry unfit for risk; 6 for fewer grounds or marks than modules, or room for fewer lines
abbrev pub page_verdict : Lent → ℕ → ℕ → ℕ → ℕ → Option Refusal
page_verdict t root grounds plan room =
    let n = modules t.project in
    verdict t.refused (is_analysed t.project root) (nat_le n grounds && (nat_le n plan && nat_le (41 * n) room))

-- a call's answer, and the slice that it leaves
pub record EntryPage (t : Lent) (root : ℕ) (grounds plan page : List ℕ) (r : Result ℕ Refusal) (page' : List ℕ) : Type 0 where
  pub answered : r ≡ answer (page_verdict t root (length grounds) (length plan) (length page)) (length (page_with t.project grounds plan root))
  pub written : page' ≡ after (page_verdict t root (length grounds) (length plan) (length page)) page (page_with t.project grounds plan root)
