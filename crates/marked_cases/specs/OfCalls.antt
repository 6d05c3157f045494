-- Demand 1 over all operations: what each one's promise gives is the outcome that its definitions compute, and a refusal changes nothing.
-- Assumes nothing.
use Rattle.std.specs.Prelude.{◌≡◌, List, [], ◌∷◌, ℕ, None, Result, Ok}
use Rattle.tables.specs.Answers.{number_of, refused_of, count_of}
use Rattle.tables.specs.declared.Refusal.{Refusal}
use Rattle.table.specs.Table.{Lent}
use Rattle.sort_modules.specs.Promise.{SortModules}
use Rattle.import_circles.specs.Promise.{ImportCircles}
use Rattle.expected_order.specs.Promise.{ExpectedOrder}
use Rattle.entries_order.specs.Promise.{EntriesOrder}
use Rattle.actual_order.specs.Promise.{ActualOrder}
use Rattle.chunk_cycles.specs.Promise.{LabelsPromise, ReachPromise}
use Rattle.at_risk.specs.Promise.{EntryOrderRisk, EntryCycleRisk}
use Rattle.wrap_plan.specs.Promise.{PlanFromSeeds}
use Rattle.order_analysis.specs.Promise.{WholeAnalysis}
use Rattle.shares.specs.Promise.{WrittenShare}
use Rattle.grounds.specs.Promise.{ModuleGrounds}
use Rattle.marked_cases.specs.Calls.{Call, sort, circles, expected_order, entries_together, actual_order, chunk_labels, chunk_reach, order_risk_of_an_entry, cycle_risk_of_an_entry, plan_from_seeds, whole_analysis, share_of_modules, grounds_of_modules, outcome_of}

-- a call's answer and the slices that it leaves are the outcome, and an answer that is no refusal is a count
pub record Gives (t : Lent) (call : Call) (r : Result ℕ Refusal) (left : List (List ℕ)) : Type 0 where
  pub outcome : outcome_of t call ≡ record { number = number_of (refused_of r); count = count_of r; slices = left }
  pub accepted : refused_of r ≡ None → r ≡ Ok (count_of r)

-- what each operation promises gives the outcome that the marked cases compute
pub record PromisesGiveOutcomes : Type 0 where
  pub of_sort : (t : Lent) (numbers sorted numbers' sorted' : List ℕ) (r : Result ℕ Refusal) → SortModules t numbers sorted r numbers' sorted'
      → Gives t (sort numbers sorted) r (numbers' ∷ sorted' ∷ [])
  pub of_circles : (t : Lent) (paths lengths paths' lengths' : List ℕ) (r : Result ℕ Refusal) → ImportCircles t paths lengths r paths' lengths'
      → Gives t (circles paths lengths) r (paths' ∷ lengths' ∷ [])
  pub of_expected_order : (t : Lent) (root : ℕ) (order order' : List ℕ) (r : Result ℕ Refusal) → ExpectedOrder t root order r order' → Gives t (expected_order root order) r (order' ∷ [])
  pub of_entries_order : (t : Lent) (entries order order' : List ℕ) (r : Result ℕ Refusal) → EntriesOrder t entries order r order' → Gives t (entries_together entries order) r (order' ∷ [])
  pub of_actual_order : (t : Lent) (root : ℕ) (order hosts order' hosts' : List ℕ) (r : Result ℕ Refusal) → ActualOrder t root order hosts r order' hosts'
      → Gives t (actual_order root order hosts) r (order' ∷ hosts' ∷ [])
  pub of_labels : (t : Lent) (labels labels' : List ℕ) (r : Result ℕ Refusal) → LabelsPromise t labels r labels' → Gives t (chunk_labels labels) r (labels' ∷ [])
  pub of_reach : (t : Lent) (chunk : ℕ) (r : Result ℕ Refusal) → ReachPromise t chunk r → Gives t (chunk_reach chunk) r []
  pub of_order_risk : (t : Lent) (root : ℕ) (marks marks' : List ℕ) (r : Result ℕ Refusal) → EntryOrderRisk t root marks r marks' → Gives t (order_risk_of_an_entry root marks) r (marks' ∷ [])
  pub of_cycle_risk : (t : Lent) (root : ℕ) (marks marks' : List ℕ) (r : Result ℕ Refusal) → EntryCycleRisk t root marks r marks' → Gives t (cycle_risk_of_an_entry root marks) r (marks' ∷ [])
  pub of_plan : (t : Lent) (seeds marks marks' : List ℕ) (r : Result ℕ Refusal) → PlanFromSeeds t seeds marks r marks' → Gives t (plan_from_seeds seeds marks) r (marks' ∷ [])
  pub of_whole_analysis : (t : Lent) (marks marks' : List ℕ) (r : Result ℕ Refusal) → WholeAnalysis t marks r marks' → Gives t (whole_analysis marks) r (marks' ∷ [])
  pub of_grounds : (t : Lent) (marks marks' : List ℕ) (r : Result ℕ Refusal) → ModuleGrounds t marks r marks' → Gives t (grounds_of_modules marks) r (marks' ∷ [])
  pub of_share : (t : Lent) (out out' : List ℕ) (r : Result ℕ Refusal) → WrittenShare t out r out' → Gives t (share_of_modules out) r (out' ∷ [])

-- the slices that a call is lent
abbrev pub slices_of : Call → List (List ℕ)
slices_of (sort numbers sorted) = numbers ∷ sorted ∷ []
slices_of (circles paths lengths) = paths ∷ lengths ∷ []
slices_of (expected_order root order) = order ∷ []
slices_of (entries_together entries order) = order ∷ []
slices_of (actual_order root order hosts) = order ∷ hosts ∷ []
slices_of (chunk_labels labels) = labels ∷ []
slices_of (chunk_reach chunk) = []
slices_of (order_risk_of_an_entry root marks) = marks ∷ []
slices_of (cycle_risk_of_an_entry root marks) = marks ∷ []
slices_of (plan_from_seeds seeds marks) = marks ∷ []
slices_of (whole_analysis marks) = marks ∷ []
slices_of (grounds_of_modules marks) = marks ∷ []
slices_of (share_of_modules out) = out ∷ []

-- "Refusals give count 0 and change no lent slice."
unfoldable pub RefusalsChangeNothing : Type 0
RefusalsChangeNothing =
    (t : Lent) (call : Call) → ((outcome_of t call).number ≡ 0 → ⊥) → ((outcome_of t call).count ≡ 0) × ((outcome_of t call).slices ≡ slices_of call)
