-- What the operation `entries_order` promises.
-- Assumes nothing.
use Rattle.std.specs.Prelude.{◌≡◌, ℕ, List, length, nat_le, Option, Result}
use Rattle.tables.specs.Readings.{modules}
use Rattle.tables.specs.Refusal.{below}
use Rattle.tables.specs.Answers.{verdict, answer, after}
use Rattle.tables.specs.declared.Refusal.{Refusal}
use Rattle.table.specs.Table.{Lent}
use Rattle.entries_order.specs.OfEntries.{expected_of_entries}

-- what refuses a call: "An entry without a module row gives 5", included or not and wherever it stands; 6 for a short output
abbrev pub entries_verdict : Lent → List ℕ → ℕ → Option Refusal
entries_verdict t entries room = verdict t.refused (below (modules t.project) entries) (nat_le (modules t.project) room)

-- a call's answer, and the slice that it leaves
pub record EntriesOrder (t : Lent) (entries order : List ℕ) (r : Result ℕ Refusal) (order' : List ℕ) : Type 0 where
  pub answered : r ≡ answer (entries_verdict t entries (length order)) (length (expected_of_entries t.project entries))
  pub written : order' ≡ after (entries_verdict t entries (length order)) order (expected_of_entries t.project entries)
