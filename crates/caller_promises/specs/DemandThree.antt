-- Demand 3 of the plans that a caller holds after accepted calls, said once for any way of calling. `proofs/` inhabits it for each of the two.
-- Assumes nothing.
use Rattle.std.specs.Prelude.{◌≡◌, true, List, ℕ, drop}
use Rattle.lists.specs.Words.{elem, has, ones}
use Rattle.tables.specs.Readings.{modules, is_analysed}
use Rattle.chunk_cycles.specs.Paths.{MoreImports}
use Rattle.wrap_rules.specs.Plan.{expected_sensitive_of}
use Rattle.at_risk.specs.Promise.{actual_sensitive_of}
use Rattle.order_analysis.specs.Promise.{seeds_of}
use Rattle.promises.specs.Changes.{with_seed, with_imports}
use Rattle.promises.specs.Statements.{LeastPlan, AllEligible, SameOrder}
use Rattle.caller_promises.specs.Ways.{Left, marks_in, Way, from_c, with_record_slices}

-- the marks are the least plan from these seeds, the count is that of its members, and what stood past them stands there still
pub record LeavesLeast (seeds : List ℕ) (l : Left) : Type 0 where
  pub least : LeastPlan l.project seeds (marks_in l)
  pub count : l.count ≡ ones (marks_in l)
  pub past : drop (modules l.project) l.left ≡ drop (modules l.project) l.slice

-- every member that the first call leaves, the second leaves too
abbrev pub Keeps : Left → Left → Type 0
Keeps l l' = (m : ℕ) → has (marks_in l) m ≡ true → has (marks_in l') m ≡ true

pub record DemandThree (w : Way) : Type 0 where
  -- the plan is the least set
  pub plan_is_least : (seeds : List ℕ) (c : w.PlanCall seeds) → LeavesLeast seeds (w.of_plan seeds c)
  pub whole_plan_is_least : (c : w.WholeCall) → LeavesLeast (seeds_of (w.of_whole c).project) (w.of_whole c)
  -- more seeds: two calls on the same project
  pub more_seeds : (seeds seeds' : List ℕ) (c : w.PlanCall seeds) (c' : w.PlanCall seeds') → (w.of_plan seeds' c').project ≡ (w.of_plan seeds c).project
      → ((m : ℕ) → elem m seeds ≡ true → elem m seeds' ≡ true) → Keeps (w.of_plan seeds c) (w.of_plan seeds' c')
  -- more seed rows, at whatever row, all else equal
  pub more_seed_rows : (c c' : w.WholeCall) (rows : List ℕ) → (w.of_whole c').project ≡ with_seed (w.of_whole c).project rows
      → ((m : ℕ) → elem m (w.of_whole c).project.seed ≡ true → elem m rows ≡ true) → Keeps (w.of_whole c) (w.of_whole c')
  -- more chunk imports, at whatever row, all else and the seeds equal
  pub more_imports : (seeds : List ℕ) (c c' : w.PlanCall seeds) (froms tos : List ℕ) → (w.of_plan seeds c').project ≡ with_imports (w.of_plan seeds c).project froms tos
      → MoreImports (w.of_plan seeds c).project (w.of_plan seeds c').project → Keeps (w.of_plan seeds c) (w.of_plan seeds c')
  -- outside the plan the order is kept
  pub keeps_the_order : (c : w.WholeCall) (root : ℕ) → is_analysed (w.of_whole c).project root ≡ true
      → AllEligible (w.of_whole c).project (expected_sensitive_of (w.of_whole c).project root) → AllEligible (w.of_whole c).project (actual_sensitive_of (w.of_whole c).project root)
      → SameOrder (marks_in (w.of_whole c)) (expected_sensitive_of (w.of_whole c).project root) (actual_sensitive_of (w.of_whole c).project root)

unfoldable pub DemandThreeFromC : Type 0
DemandThreeFromC = DemandThree from_c

unfoldable pub DemandThreeOfRecordForms : Type 0
DemandThreeOfRecordForms = DemandThree with_record_slices
