-- For each promise with premises, a listing that meets them, with a conclusion that isn't empty.
-- Assumes nothing.
use Rattle.std.specs.Prelude.{◌≡◌, true, false, [], ◌∷◌, ℕ, Ok, None}
use Rattle.lists.specs.Words.{elem}
use Rattle.tables.specs.Readings.{is_analysed}
use Rattle.tables.specs.Refusal.{refusal}
use Rattle.chunk_cycles.specs.Paths.{MoreImports}
use Rattle.eligibility.specs.Eligible.{eligible}
use Rattle.wrap_rules.specs.Plan.{expected_sensitive_of}
use Rattle.at_risk.specs.Promise.{actual_sensitive_of}
use Rattle.wrap_plan.specs.Promise.{plan_of, PlanFromSeeds}
use Rattle.order_analysis.specs.Promise.{seeds_of, whole_plan, WholeAnalysis}
use Rattle.marked_cases.specs.Calls.{lent_by}
use Rattle.promises.specs.Changes.{with_seed}
use Rattle.marked_cases.specs.Listing.{listing}
use Rattle.marked_cases.specs.Cases.{lent, edge10}
use Rattle.promises.specs.Statements.{ClosedOverSeeds, AllEligible, unplanned}

-- leastness: a closed set over the seed 2 that holds the runtime too, which isn't eligible, and the plan from 2
pub record LeastPlanWitness : Type 0 where
  pub closed : ClosedOverSeeds listing (2 ∷ []) (1 ∷ 1 ∷ 1 ∷ 1 ∷ [])
  pub ineligible : eligible listing 0 ≡ false
  pub plan : plan_of listing (2 ∷ []) ≡ 0 ∷ 1 ∷ 1 ∷ 1 ∷ []

-- and one over the whole analysis' seeds
pub record LeastWholePlanWitness : Type 0 where
  pub closed : ClosedOverSeeds listing (seeds_of listing) (1 ∷ 1 ∷ 1 ∷ 1 ∷ [])
  pub plan : whole_plan listing ≡ 0 ∷ 1 ∷ 0 ∷ 1 ∷ []

-- more lent seeds, in another order
pub record MoreSeedsWitness : Type 0 where
  pub more : (m : ℕ) → elem m (1 ∷ []) ≡ true → elem m (2 ∷ 1 ∷ []) ≡ true
  pub plan : plan_of listing (1 ∷ []) ≡ 0 ∷ 1 ∷ 0 ∷ 0 ∷ []

-- more seed rows, the old one at another row
pub record MoreSeedRowsWitness : Type 0 where
  pub more : (m : ℕ) → elem m (with_seed listing (3 ∷ [])).seed ≡ true → elem m (2 ∷ 3 ∷ []) ≡ true
  pub plan : whole_plan (with_seed listing (3 ∷ [])) ≡ 0 ∷ 1 ∷ 0 ∷ 1 ∷ []

-- one import more
pub record MoreImportsWitness : Type 0 where
  pub accepted : refusal listing ≡ None
  pub accepted' : refusal edge10 ≡ None
  pub more : MoreImports listing edge10
  pub plan : plan_of listing (1 ∷ []) ≡ 0 ∷ 1 ∷ 0 ∷ 0 ∷ []

-- an analysed entry whose sensitive modules are all eligible, one of them outside the plan and two in it
pub record SameOrderWitness : Type 0 where
  pub analysed : is_analysed listing 1 ≡ true
  pub expected : AllEligible listing (expected_sensitive_of listing 1)
  pub actual : AllEligible listing (actual_sensitive_of listing 1)
  pub order : expected_sensitive_of listing 1 ≡ 2 ∷ 3 ∷ 1 ∷ []
  pub order' : actual_sensitive_of listing 1 ≡ 3 ∷ 2 ∷ 1 ∷ []
  pub opening : unplanned (whole_plan listing) (expected_sensitive_of listing 1) ≡ 2 ∷ []

-- an accepted call of each operation, with a plan and one place past it
pub record CallWitness : Type 0 where
  pub planned : PlanFromSeeds (lent_by listing) (2 ∷ []) lent (Ok 3) (0 ∷ 1 ∷ 1 ∷ 1 ∷ 5 ∷ [])
  pub analysed : WholeAnalysis (lent_by listing) lent (Ok 2) (0 ∷ 1 ∷ 0 ∷ 1 ∷ 5 ∷ [])
