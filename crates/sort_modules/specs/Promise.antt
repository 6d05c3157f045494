-- What the operation `sort_modules` promises.
-- Assumes nothing.
use Rattle.std.specs.Prelude.{◌≡◌, ℕ, true, ◌&&◌, List, length, nat_le, Option, Result}
use Rattle.tables.specs.Readings.{modules}
use Rattle.tables.specs.Answers.{verdict, answer, after}
use Rattle.tables.specs.declared.Refusal.{Refusal}
use Rattle.table.specs.Table.{Lent}
use Rattle.sort_modules.specs.OfProject.{numbers_of, sorted_of}

-- what refuses a call: 6 if either output is short
abbrev pub sort_verdict : Lent → ℕ → ℕ → Option Refusal
sort_verdict t numbers_room sorted_room = verdict t.refused true (nat_le (modules t.project) numbers_room && nat_le (modules t.project) sorted_room)

-- a call's answer, and the slices that it leaves
pub record SortModules (t : Lent) (numbers sorted : List ℕ) (r : Result ℕ Refusal) (numbers' sorted' : List ℕ) : Type 0 where
  pub answered : r ≡ answer (sort_verdict t (length numbers) (length sorted)) (length (sorted_of t.project))
  pub numbered : numbers' ≡ after (sort_verdict t (length numbers) (length sorted)) numbers (numbers_of t.project)
  pub listed : sorted' ≡ after (sort_verdict t (length numbers) (length sorted)) sorted (sorted_of t.project)
