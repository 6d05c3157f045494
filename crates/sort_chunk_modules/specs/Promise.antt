-- What the operation `sort_chunk_modules` promises.
-- Assumes nothing.
use Rattle.std.specs.Prelude.{◌≡◌, ℕ, true, List, length, nat_le, nat_lt, Option, Result}
use Rattle.tables.specs.Answers.{verdict, answer, after}
use Rattle.tables.specs.declared.Refusal.{Refusal}
use Rattle.table.specs.Table.{tested_too, Lent}
use Rattle.arrangement.specs.OfProject.{arranged_of}

-- what refuses what was lent, "no name at all" among what 2 tests
abbrev pub named_refusal : Lent → List ℕ → Option Refusal
named_refusal t names = tested_too t.refused true (nat_lt 0 (length names))

-- what refuses a call: 6 for "a slice with a place a member row .. shorter than they are"
abbrev pub arranged_verdict : Lent → List ℕ → ℕ → Option Refusal
arranged_verdict t names room = verdict (named_refusal t names) true (nat_le (length t.project.member) room)

-- a call's answer, "the count is that of member rows", and the slice that it leaves
pub record SortChunkModules (t : Lent) (names out : List ℕ) (r : Result ℕ Refusal) (out' : List ℕ) : Type 0 where
  pub answered : r ≡ answer (arranged_verdict t names (length out)) (length t.project.member)
  pub arranged : out' ≡ after (arranged_verdict t names (length out)) out (arranged_of t.project names)
