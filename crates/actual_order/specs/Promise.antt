-- What the operation `actual_order` promises.
-- Assumes nothing.
use Rattle.std.specs.Prelude.{◌≡◌, ℕ, ◌&&◌, List, length, nat_le, Option, Result}
use Rattle.tables.specs.Readings.{modules, is_analysed}
use Rattle.tables.specs.Answers.{verdict, answer, after}
use Rattle.tables.specs.declared.Refusal.{Refusal}
use Rattle.table.specs.Table.{Lent}
use Rattle.entry_run.specs.Actual.{actual_of, hosts_of}

-- what refuses a call: 5 for a root that is no analysed entry, 6 for an output shorter than the module count
abbrev pub actual_verdict : Lent → ℕ → ℕ → ℕ → Option Refusal
actual_verdict t root order_room host_room = verdict t.refused (is_analysed t.project root) (nat_le (modules t.project) order_room && nat_le (modules t.project) host_room)

-- a call's answer, and the slices that it leaves
pub record ActualOrder (t : Lent) (root : ℕ) (order hosts : List ℕ) (r : Result ℕ Refusal) (order' hosts' : List ℕ) : Type 0 where
  pub answered : r ≡ answer (actual_verdict t root (length order) (length hosts)) (length (actual_of t.project root))
  pub listed : order' ≡ after (actual_verdict t root (length order) (length hosts)) order (actual_of t.project root)
  pub noted : hosts' ≡ after (actual_verdict t root (length order) (length hosts)) hosts (hosts_of t.project root)
