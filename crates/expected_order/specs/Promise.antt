-- What the operation `expected_order` promises.
-- Assumes nothing.
use Rattle.std.specs.Prelude.{◌≡◌, ℕ, List, length, nat_le, nat_lt, Option, Result}
use Rattle.tables.specs.Readings.{modules}
use Rattle.tables.specs.Answers.{verdict, answer, after}
use Rattle.tables.specs.declared.Refusal.{Refusal}
use Rattle.table.specs.Table.{Lent}
use Rattle.expected_visit.specs.OfProject.{expected_of}

-- what refuses a call: 5 "for a root that has no row", 6 for a short output
abbrev pub expected_verdict : Lent → ℕ → ℕ → Option Refusal
expected_verdict t root room = verdict t.refused (nat_lt root (modules t.project)) (nat_le (modules t.project) room)

-- a call's answer, and the slice that it leaves
pub record ExpectedOrder (t : Lent) (root : ℕ) (order : List ℕ) (r : Result ℕ Refusal) (order' : List ℕ) : Type 0 where
  pub answered : r ≡ answer (expected_verdict t root (length order)) (length (expected_of t.project root))
  pub written : order' ≡ after (expected_verdict t root (length order)) order (expected_of t.project root)
