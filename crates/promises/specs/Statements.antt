-- What is promised of the two plans: the plan from seeds and the plan of the whole analysis.
-- Each statement is a type; `proofs/` inhabits it under the same name in small letters.
-- Assumes nothing.
use Rattle.std.specs.Prelude.{◌≡◌, true, not, ℕ, ◌≤◌, ◌<◌, length, get_or, drop, None, Result}
use mathlib.Core.List.{List, ◌++◌, Memᴰ}
use Rattle.lists.specs.Words.{keep, elem, has, ones}
use Rattle.tables.specs.Project.{Project}
use Rattle.tables.specs.Readings.{modules, is_analysed}
use Rattle.tables.specs.Refusal.{refusal}
use Rattle.tables.specs.Answers.{refused_of, count_of}
use Rattle.tables.specs.declared.Refusal.{Refusal}
use Rattle.table.specs.Table.{Lent}
use Rattle.chunk_cycles.specs.Cycles.{labels_of}
use Rattle.chunk_cycles.specs.Paths.{MoreImports}
use Rattle.eligibility.specs.Eligible.{eligible}
use Rattle.wrap_rules.specs.Plan.{expected_sensitive_of, Rule, asks, orders_of}
use Rattle.at_risk.specs.Promise.{actual_sensitive_of}
use Rattle.wrap_plan.specs.Promise.{plan_of, PlanFromSeeds}
use Rattle.order_analysis.specs.Promise.{seeds_of, whole_plan, WholeAnalysis}
use Rattle.promises.specs.Changes.{with_seed, with_imports}

-- a set of modules, as many marks as modules, that holds every eligible seed and every module that one of the four rules then asks for
pub record ClosedOverSeeds (p : Project) (seeds S : List ℕ) : Type 0 where
  pub marks : length S ≡ modules p
  pub seeded : (m : ℕ) → elem m seeds ≡ true → eligible p m ≡ true → has S m ≡ true
  pub closed : (rule : Rule) (m : ℕ) → m < modules p → asks (orders_of p) (labels_of p) p rule S m ≡ true → has S m ≡ true

-- the plan is such a set, its marks are 0 or 1, it has eligible members only, and every such set contains it, whatever else that set holds
pub record LeastPlan (p : Project) (seeds plan : List ℕ) : Type 0 where
  pub holds : ClosedOverSeeds p seeds plan
  pub bits : (m : ℕ) → get_or plan m 0 ≤ 1
  pub members : (m : ℕ) → has plan m ≡ true → eligible p m ≡ true
  pub least : (S : List ℕ) → ClosedOverSeeds p seeds S → (m : ℕ) → has plan m ≡ true → has S m ≡ true

unfoldable pub PlanIsLeast : Type 0
PlanIsLeast = (p : Project) (seeds : List ℕ) → LeastPlan p seeds (plan_of p seeds)

unfoldable pub WholePlanIsLeast : Type 0
WholePlanIsLeast = (p : Project) → LeastPlan p (seeds_of p) (whole_plan p)

-- more seeds never remove a member: a lent list whose members include the old ones
unfoldable pub MoreSeedsKeepThePlan : Type 0
MoreSeedsKeepThePlan =
    (p : Project) (seeds seeds' : List ℕ) → ((m : ℕ) → elem m seeds ≡ true → elem m seeds' ≡ true)
    → (m : ℕ) → has (plan_of p seeds) m ≡ true → has (plan_of p seeds') m ≡ true

-- and seed rows that include the old ones, at whatever row, all else equal
unfoldable pub MoreSeedRowsKeepTheWholePlan : Type 0
MoreSeedRowsKeepTheWholePlan =
    (p : Project) (rows : List ℕ) → ((m : ℕ) → elem m p.seed ≡ true → elem m rows ≡ true)
    → (m : ℕ) → has (whole_plan p) m ≡ true → has (whole_plan (with_seed p rows)) m ≡ true

-- more chunk imports never remove a member of a plan from the same lent seeds: every old import pair is still there, at whatever row, all else
-- equal, and both projects accepted
unfoldable pub MoreImportsKeepThePlan : Type 0
MoreImportsKeepThePlan =
    (p : Project) (froms tos seeds : List ℕ) → refusal p ≡ None → refusal (with_imports p froms tos) ≡ None → MoreImports p (with_imports p froms tos)
    → (m : ℕ) → has (plan_of p seeds) m ≡ true → has (plan_of (with_imports p froms tos) seeds) m ≡ true

-- the modules of a list that are outside a plan, in order
abbrev pub unplanned : List ℕ → List ℕ → List ℕ
unplanned plan order = keep (λ (m : ℕ). not (has plan m)) order

-- the unplanned modules open the expected order, planned ones follow, and with the planned ones struck out the two orders are the same list
pub record SameOrder (plan expected actual : List ℕ) : Type 0 where
  pub rest : List ℕ
  pub opens : expected ≡ unplanned plan expected ++ rest
  pub planned : (m : ℕ) → Memᴰ m rest → has plan m ≡ true
  pub same : unplanned plan expected ≡ unplanned plan actual

-- every module of a list is eligible
unfoldable pub AllEligible : Project → List ℕ → Type 0
AllEligible p order = (m : ℕ) → Memᴰ m order → eligible p m ≡ true

-- in the whole analysis, for each analysed entry whose sensitive modules, in either order, are all eligible
unfoldable pub WholePlanKeepsTheOrder : Type 0
WholePlanKeepsTheOrder =
    (p : Project) (root : ℕ) → is_analysed p root ≡ true → AllEligible p (expected_sensitive_of p root) → AllEligible p (actual_sensitive_of p root)
    → SameOrder (whole_plan p) (expected_sensitive_of p root) (actual_sensitive_of p root)

-- the plan's equation: an accepted call leaves the plan from place 0 on and what stood past it, and counts the plan's members
pub record LeavesPlan (p : Project) (plan marks : List ℕ) (r : Result ℕ Refusal) (marks' : List ℕ) : Type 0 where
  pub written : marks' ≡ plan ++ drop (modules p) marks
  pub count : count_of r ≡ ones plan

unfoldable pub PlanCallLeavesThePlan : Type 0
PlanCallLeavesThePlan =
    (t : Lent) (seeds marks marks' : List ℕ) (r : Result ℕ Refusal) → PlanFromSeeds t seeds marks r marks' → refused_of r ≡ None
    → LeavesPlan t.project (plan_of t.project seeds) marks r marks'

unfoldable pub WholeCallLeavesThePlan : Type 0
WholeCallLeavesThePlan =
    (t : Lent) (marks marks' : List ℕ) (r : Result ℕ Refusal) → WholeAnalysis t marks r marks' → refused_of r ≡ None
    → LeavesPlan t.project (whole_plan t.project) marks r marks'
