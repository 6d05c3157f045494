-- The operations as calls, and what each leaves by the definitions that its contract cites.
-- Assumes nothing.
use Rattle.std.specs.Prelude.{List, [], ◌∷◌, map, ℕ, length, Option}
use Rattle.lists.specs.Words.{ones, bit}
use Rattle.tables.specs.Project.{Project}
use Rattle.tables.specs.Refusal.{refusal}
use Rattle.tables.specs.declared.Refusal.{Refusal}
use Rattle.tables.specs.Answers.{number_of, counted, after}
use Rattle.table.specs.Table.{current, Lent}
use Rattle.sort_modules.specs.OfProject.{numbers_of, sorted_of}
use Rattle.sort_modules.specs.Promise.{sort_verdict}
use Rattle.circle_gathering.specs.Gathering.{joined, lengths_of}
use Rattle.import_circles.specs.OfProject.{circles_of}
use Rattle.import_circles.specs.Promise.{circles_verdict}
use Rattle.expected_visit.specs.OfProject.{expected_of}
use Rattle.expected_order.specs.Promise.{expected_verdict}
use Rattle.entries_order.specs.OfEntries.{expected_of_entries}
use Rattle.entries_order.specs.Promise.{entries_verdict}
use Rattle.entry_run.specs.Actual.{actual_of, hosts_of}
use Rattle.actual_order.specs.Promise.{actual_verdict}
use Rattle.chunk_cycles.specs.Cycles.{labels_of, cyclic_of, reaches_cycle_of}
use Rattle.chunk_cycles.specs.Promise.{labels_verdict, reach_verdict}
use Rattle.at_risk.specs.Promise.{order_risk_of_entry, cycle_risk_of_entry, risk_verdict}
use Rattle.wrap_plan.specs.Promise.{plan_of, plan_verdict}
use Rattle.order_analysis.specs.Promise.{whole_plan, whole_verdict}
use Rattle.sensitivity.specs.Marks.{grounds_of}
use Rattle.grounds.specs.Promise.{grounds_verdict}
use Rattle.shares.specs.Promise.{share_numbers, share_verdict}

-- an operation with its arguments and the slices that it is lent
pub data Call : Type 0 where
  sort : (numbers sorted : List ℕ) → Call
  circles : (paths lengths : List ℕ) → Call
  expected_order : (root : ℕ) (order : List ℕ) → Call
  entries_together : (entries order : List ℕ) → Call
  actual_order : (root : ℕ) (order hosts : List ℕ) → Call
  chunk_labels : (labels : List ℕ) → Call
  chunk_reach : (chunk : ℕ) → Call
  order_risk_of_an_entry : (root : ℕ) (marks : List ℕ) → Call
  cycle_risk_of_an_entry : (root : ℕ) (marks : List ℕ) → Call
  plan_from_seeds : (seeds marks : List ℕ) → Call
  whole_analysis : (marks : List ℕ) → Call
  grounds_of_modules : (marks : List ℕ) → Call
  share_of_modules : (out : List ℕ) → Call

-- the refusal's number or 0, the count, and the slices after the call
pub record Outcome : Type 0 where
  pub number : ℕ
  pub count : ℕ
  pub slices : List (List ℕ)

-- the outcome of a call that v refuses, or nothing does: its count where it is accepted, and each slice as lent and as it is to be written
abbrev pub outcome : Option Refusal → ℕ → List (List ℕ × List ℕ) → Outcome
outcome v count slices = record { number = number_of v; count = counted v count; slices = map (λ (s : List ℕ × List ℕ). after v s.0 s.1) slices }

abbrev pub outcome_of : Lent → Call → Outcome
outcome_of t (sort numbers sorted) =
    outcome (sort_verdict t (length numbers) (length sorted)) (length (sorted_of t.project))
    ((numbers, numbers_of t.project) ∷ (sorted, sorted_of t.project) ∷ [])
outcome_of t (circles paths lengths) =
    outcome (circles_verdict t (length paths) (length lengths)) (length (circles_of t.project))
    ((paths, joined (circles_of t.project)) ∷ (lengths, lengths_of (circles_of t.project)) ∷ [])
outcome_of t (expected_order root order) =
    outcome (expected_verdict t root (length order)) (length (expected_of t.project root)) ((order, expected_of t.project root) ∷ [])
outcome_of t (entries_together entries order) =
    outcome (entries_verdict t entries (length order)) (length (expected_of_entries t.project entries)) ((order, expected_of_entries t.project entries) ∷ [])
outcome_of t (actual_order root order hosts) =
    outcome (actual_verdict t root (length order) (length hosts)) (length (actual_of t.project root))
    ((order, actual_of t.project root) ∷ (hosts, hosts_of t.project root) ∷ [])
outcome_of t (chunk_labels labels) = outcome (labels_verdict t (length labels)) (length (cyclic_of t.project)) ((labels, labels_of t.project) ∷ [])
outcome_of t (chunk_reach chunk) = outcome (reach_verdict t chunk) (bit (reaches_cycle_of t.project chunk)) []
outcome_of t (order_risk_of_an_entry root marks) =
    outcome (risk_verdict t root (length marks)) (ones (order_risk_of_entry t.project root)) ((marks, order_risk_of_entry t.project root) ∷ [])
outcome_of t (cycle_risk_of_an_entry root marks) =
    outcome (risk_verdict t root (length marks)) (ones (cycle_risk_of_entry t.project root)) ((marks, cycle_risk_of_entry t.project root) ∷ [])
outcome_of t (plan_from_seeds seeds marks) =
    outcome (plan_verdict t seeds (length marks)) (ones (plan_of t.project seeds)) ((marks, plan_of t.project seeds) ∷ [])
outcome_of t (whole_analysis marks) = outcome (whole_verdict t (length marks)) (ones (whole_plan t.project)) ((marks, whole_plan t.project) ∷ [])
outcome_of t (grounds_of_modules marks) = outcome (grounds_verdict t (length marks)) (ones (grounds_of t.project)) ((marks, grounds_of t.project) ∷ [])
outcome_of t (share_of_modules out) = outcome (share_verdict t (length out)) 4 ((out, share_numbers t.project) ∷ [])

-- a project as a table that fits lends it: refused by the tests 1 to 4 and 10, and read through `newer`
abbrev pub lent_by : Project → Lent
lent_by p = record { refused = refusal p; project = current p }
