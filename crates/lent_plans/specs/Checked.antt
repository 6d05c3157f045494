-- What is promised of a plan that was made elsewhere: when it is accepted, and what a broken condition names.
-- Each statement is a type; `proofs/` inhabits it under the same name in small letters.
-- Assumes nothing.
use Rattle.std.specs.Prelude.{◌≡◌, true, false, ℕ, suc, ◌<◌, length, None, Ok, Err}
use mathlib.Core.List.{List, [], ◌∷◌, ◌++◌, Memᴰ}
use Rattle.lists.specs.Words.{has}
use Rattle.tables.specs.Project.{Project}
use Rattle.tables.specs.Readings.{modules}
use Rattle.tables.specs.declared.Refusal.TheVariants.{Argument, PlanForm}
use Rattle.tables.specs.Refusal.{refusal}
use Rattle.table.specs.Table.{Lent}
use Rattle.eligibility.specs.Eligible.{eligible}
use Rattle.seeds.specs.Seeds.{seeds_fit}
use Rattle.wrap_plan.specs.Promise.{plan_of}
use Rattle.plan_conditions.specs.declared.Judgement.TheVariants.{Accepted, Broken}
use Rattle.plan_conditions.specs.Form.{plan_fits}
use Rattle.plan_conditions.specs.Conditions.{Condition, conditions, broken, judged}
use Rattle.plan_check.specs.Promise.{judgement}
use Rattle.marked_cases.specs.Listing.{listing}
use Rattle.marked_cases.specs.Calls.{lent_by}
use Rattle.promises.specs.Statements.{ClosedOverSeeds}

-- a set of eligible modules only that holds every eligible seed and every module that one of the four rules then asks for
pub record AcceptablePlan (p : Project) (seeds plan : List ℕ) : Type 0 where
  pub members : (m : ℕ) → has plan m ≡ true → eligible p m ≡ true
  pub holds : ClosedOverSeeds p seeds plan

-- of an accepted project, a plan of the right form is accepted exactly if it is such a set
unfoldable pub AcceptedExactlyIfClosed : Type 0
AcceptedExactlyIfClosed =
    (p : Project) (seeds plan : List ℕ) → refusal p ≡ None → plan_fits (modules p) plan ≡ true
    → (judged p seeds plan ≡ Accepted → AcceptablePlan p seeds plan) × (AcceptablePlan p seeds plan → judged p seeds plan ≡ Accepted)

-- an accepted plan contains the plan from those seeds
unfoldable pub AcceptedHoldsThePlan : Type 0
AcceptedHoldsThePlan =
    (p : Project) (seeds plan : List ℕ) → refusal p ≡ None → plan_fits (modules p) plan ≡ true → judged p seeds plan ≡ Accepted
    → (m : ℕ) → has (plan_of p seeds) m ≡ true → has plan m ≡ true

-- and that plan has the right form and is accepted
unfoldable pub ThePlanIsAccepted : Type 0
ThePlanIsAccepted =
    (p : Project) (seeds : List ℕ) → refusal p ≡ None → (plan_fits (modules p) (plan_of p seeds) ≡ true) × (judged p seeds (plan_of p seeds) ≡ Accepted)

-- condition i fails of module m, of no lower one, and no condition before it fails of any module
pub record FirstFailure (p : Project) (seeds plan : List ℕ) (i m : ℕ) : Type 0 where
  pub before : List Condition
  pub condition : Condition
  pub rest : List Condition
  pub place : conditions ≡ before ++ (condition ∷ rest)
  pub numbered : i ≡ suc (length before)
  pub inside : m < modules p
  pub fails : broken p seeds plan condition m ≡ true
  pub lowest : (k : ℕ) → k < m → broken p seeds plan condition k ≡ false
  pub earlier : (c : Condition) → Memᴰ c before → (k : ℕ) → k < modules p → broken p seeds plan c k ≡ false

unfoldable pub BrokenNamesTheFirst : Type 0
BrokenNamesTheFirst = (p : Project) (seeds plan : List ℕ) (i m : ℕ) → refusal p ≡ None → judged p seeds plan ≡ Broken i m → FirstFailure p seeds plan i m

-- what a call answers where nothing is refused is what is said of the plan
unfoldable pub CheckCallJudges : Type 0
CheckCallJudges =
    (t : Lent) (seeds plan : List ℕ) → t.refused ≡ None → seeds_fit (modules t.project) seeds ≡ true → plan_fits (modules t.project) plan ≡ true
    → judgement t seeds plan ≡ Ok (judged t.project seeds plan)

-- document 01's listing with the seed 2: the plan from it, a larger one with a module that isn't eligible, one without the seed, one that lacks what rule (i)
-- asks for, a mark 2, and a mark too many
pub record CheckWitness : Type 0 where
  pub least : judgement (lent_by listing) (2 ∷ []) (0 ∷ 1 ∷ 1 ∷ 1 ∷ []) ≡ Ok Accepted
  pub larger : judgement (lent_by listing) (1 ∷ []) (0 ∷ 1 ∷ 0 ∷ 1 ∷ []) ≡ Ok Accepted
  pub wrong : judgement (lent_by listing) (2 ∷ []) (1 ∷ 1 ∷ 1 ∷ 1 ∷ []) ≡ Ok (Broken 1 0)
  pub unseeded : judgement (lent_by listing) (2 ∷ []) (0 ∷ 1 ∷ 0 ∷ 1 ∷ []) ≡ Ok (Broken 2 2)
  pub lacking : judgement (lent_by listing) (2 ∷ []) (0 ∷ 0 ∷ 1 ∷ 0 ∷ []) ≡ Ok (Broken 3 1)
  pub two : judgement (lent_by listing) (2 ∷ []) (0 ∷ 1 ∷ 2 ∷ 1 ∷ []) ≡ Err PlanForm
  pub long : judgement (lent_by listing) (2 ∷ []) (0 ∷ 1 ∷ 1 ∷ 1 ∷ 0 ∷ []) ≡ Err PlanForm
  pub stranger : judgement (lent_by listing) (4 ∷ []) (0 ∷ 1 ∷ 2 ∷ 1 ∷ []) ≡ Err Argument
