-- 02's replaced modules: what is read of a project is a project like any other, so that every statement here holds of it.
-- Assumes nothing.
use Rattle.std.specs.Prelude.{◌≡◌, true, List, ℕ, ◌<◌, length, get_or, None}
use Rattle.tables.specs.Project.{Project, missing}
use Rattle.tables.specs.Refusal.{newer_fits, refusal}
use Rattle.table.specs.Table.{current, lent_as}
use Rattle.arrangement.specs.OfProject.{named_lent}
use Rattle.replacement.specs.Replacement.{latest}
use Rattle.promises.specs.Changes.{with_seed, with_imports}

-- the module that is read for m: m itself where nothing supersedes it, else what is read for the one that does; it has a row, and nothing supersedes it
pub record EndsItsChain (newer : List ℕ) (m : ℕ) : Type 0 where
  pub stays : get_or newer m missing ≡ missing → latest newer m ≡ m
  pub goes_on : (get_or newer m missing ≡ missing → ⊥) → latest newer m ≡ latest newer (get_or newer m missing)
  pub there : m < length newer → latest newer m < length newer
  pub last : get_or newer (latest newer m) missing ≡ missing

unfoldable pub ChainsEnd : Type 0
ChainsEnd = (newer : List ℕ) → newer_fits newer ≡ true → (m : ℕ) → EndsItsChain newer m

-- a call's project passes the tests where the project as it was lent does, with its members as written and as they are read
unfoldable pub WhatIsReadIsAccepted : Type 0
WhatIsReadIsAccepted =
    (bounds columns names : List ℕ) (p : Project) → let t = lent_as bounds columns names p in
    t.refused ≡ None → (refusal t.project ≡ None) × (refusal (named_lent names t).project ≡ None)

-- more seed rows and more chunk imports are more of what is read
pub record ChangesAreRead : Type 0 where
  pub seeds : (p : Project) (rows : List ℕ) → current (with_seed p rows) ≡ with_seed (current p) rows
  pub imports : (p : Project) (froms tos : List ℕ) → current (with_imports p froms tos) ≡ with_imports (current p) froms tos
