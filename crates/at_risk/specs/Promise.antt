-- "Risk of an entry" at a project, its two kinds, and what an operation that gives one of them promises.
-- Assumes nothing.
use Rattle.std.specs.Prelude.{◌≡◌, ℕ, Bool, List, length, nat_le, Option, Result}
use Rattle.lists.specs.Words.{keep, ones, marks_of}
use Rattle.tables.specs.Project.{Project}
use Rattle.tables.specs.Readings.{modules, is_analysed, entry_chunk_of}
use Rattle.tables.specs.Answers.{verdict, answer, after}
use Rattle.tables.specs.declared.Refusal.{Refusal}
use Rattle.table.specs.Table.{Lent}
use Rattle.expected_visit.specs.OfProject.{expected_of}
use Rattle.entry_run.specs.Actual.{actual_of, hosts_of}
use Rattle.chunk_cycles.specs.Cycles.{reaches_cycle_of}
use Rattle.sensitivity.specs.Marks.{sensitive}
use Rattle.eligibility.specs.Eligible.{eligible}
use Rattle.risk_of_orders.specs.Risk.{order_risk, cycle_risk, risk_of}

-- an entry's actual sensitive order: "its .. actual order with all but the sensitive modules left out"
unfoldable pub actual_sensitive_of : Project → ℕ → List ℕ
actual_sensitive_of p root = keep (sensitive p) (actual_of p root)

-- "order risk, from differing and early modules with the hosts that stand in for them"
abbrev pub in_order_risk : Project → ℕ → ℕ → Bool
in_order_risk p root = order_risk (sensitive p) (eligible p) (expected_of p root) (actual_of p root) (hosts_of p root)

-- "cycle risk, all eligible expected modules if its chunk reaches a cyclic one"
abbrev pub in_cycle_risk : Project → ℕ → ℕ → Bool
in_cycle_risk p root = cycle_risk (eligible p) (expected_of p root) (reaches_cycle_of p (entry_chunk_of p root))

-- the order risk of an entry: 0 or 1 for each module
unfoldable pub order_risk_of_entry : Project → ℕ → List ℕ
order_risk_of_entry p root = marks_of (in_order_risk p root) (modules p)

-- the cycle risk of an entry: 0 or 1 for each module
unfoldable pub cycle_risk_of_entry : Project → ℕ → List ℕ
cycle_risk_of_entry p root = marks_of (in_cycle_risk p root) (modules p)

-- the risk of an entry, both kinds joined: 0 or 1 for each module
unfoldable pub risk_of_entry : Project → ℕ → List ℕ
risk_of_entry p root =
    risk_of (sensitive p) (eligible p) (expected_of p root) (actual_of p root) (hosts_of p root) (reaches_cycle_of p (entry_chunk_of p root)) (modules p)

-- what refuses a call: 5 for "a root .. that isn't an analysed entry", 6 for a short output
abbrev pub risk_verdict : Lent → ℕ → ℕ → Option Refusal
risk_verdict t root room = verdict t.refused (is_analysed t.project root) (nat_le (modules t.project) room)

-- a call's answer, and the slice that it leaves, for the marks of an entry
pub record EntryMarks (marks_of_entry : Project → ℕ → List ℕ) (t : Lent) (root : ℕ) (marks : List ℕ) (r : Result ℕ Refusal) (marks' : List ℕ) : Type 0 where
  pub answered : r ≡ answer (risk_verdict t root (length marks)) (ones (marks_of_entry t.project root))
  pub written : marks' ≡ after (risk_verdict t root (length marks)) marks (marks_of_entry t.project root)

-- what the operation of the order risk promises
abbrev pub EntryOrderRisk : Lent → ℕ → List ℕ → Result ℕ Refusal → List ℕ → Type 0
EntryOrderRisk t root marks r marks' = EntryMarks order_risk_of_entry t root marks r marks'

-- what the operation of the cycle risk promises
abbrev pub EntryCycleRisk : Lent → ℕ → List ℕ → Result ℕ Refusal → List ℕ → Type 0
EntryCycleRisk t root marks r marks' = EntryMarks cycle_risk_of_entry t root marks r marks'
