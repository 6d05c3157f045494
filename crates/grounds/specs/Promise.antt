-- What the operation `grounds` promises.
-- Assumes nothing.
use Rattle.std.specs.Prelude.{◌≡◌, ℕ, true, List, length, nat_le, Option, Result}
use Rattle.lists.specs.Words.{ones}
use Rattle.tables.specs.Readings.{modules}
use Rattle.tables.specs.Answers.{verdict, answer, after}
use Rattle.tables.specs.declared.Refusal.{Refusal}
use Rattle.table.specs.Table.{Lent}
use Rattle.sensitivity.specs.Marks.{grounds_of}

-- what refuses a call: 6 for a short output, and never 5
abbrev pub grounds_verdict : Lent → ℕ → Option Refusal
grounds_verdict t room = verdict t.refused true (nat_le (modules t.project) room)

-- a call's answer, the count of grounds above 0, and the slice that it leaves
pub record ModuleGrounds (t : Lent) (marks : List ℕ) (r : Result ℕ Refusal) (marks' : List ℕ) : Type 0 where
  pub answered : r ≡ answer (grounds_verdict t (length marks)) (ones (grounds_of t.project))
  pub written : marks' ≡ after (grounds_verdict t (length marks)) marks (grounds_of t.project)
