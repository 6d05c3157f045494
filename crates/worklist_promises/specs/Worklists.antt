-- What a buyer is told of planning by a worklist, at the terms of `takings_from_seeds`.
-- Each statement is a type; `proofs/Worklists.antt` inhabits it.
-- Assumes nothing.
use Rattle.std.specs.Prelude.{◌≡◌, List, ℕ, ◌<◌, ◌≤◌, length, get_or, take, None, Result, Ok}
use Rattle.tables.specs.Project.{Project}
use Rattle.tables.specs.Readings.{modules}
use Rattle.tables.specs.declared.Refusal.{Refusal}
use Rattle.table.specs.Table.{Lent}
use Rattle.chunk_cycles.specs.Cycles.{labels_of}
use Rattle.wrap_rules.specs.Plan.{orders_of, asked, start}
use Rattle.wrap_plan.specs.Promise.{plan_of}
use Rattle.takings.specs.Taking.{set_of, Taking}
use Rattle.takings_from_seeds.specs.Promise.{RunOf, takings_verdict, TakingsFromSeeds}

-- 02's statement after k takings, at a project
abbrev pub TakingOf : Project → List ℕ → List ℕ → ℕ → Type 0
TakingOf p seeds list k = Taking (asked (orders_of p) (labels_of p) p) (start (orders_of p) (labels_of p) p seeds) list k

-- "after every taking the list, taken ones included, holds, each once, the eligible seeds and what a rule asks for with just the taken ones planned, and nothing else"
unfoldable pub EveryListHoldsWhatIsAsked : Type 0
EveryListHoldsWhatIsAsked =
    (p : Project) (seeds list lengths : List ℕ) → RunOf p seeds list lengths → (k : ℕ) → k < length list → TakingOf p seeds (take (get_or lengths k 0) list) k

-- a worklist is no longer than there are modules
unfoldable pub WorklistsAreShort : Type 0
WorklistsAreShort = (p : Project) (seeds list lengths : List ℕ) → RunOf p seeds list lengths → length list ≤ modules p

-- "It must give the plan of the old planner for every project and every seed list", in whatever order it takes
unfoldable pub WorklistsGiveThePlan : Type 0
WorklistsGiveThePlan = (p : Project) (seeds list lengths : List ℕ) → RunOf p seeds list lengths → set_of (modules p) list ≡ plan_of p seeds

-- an accepted call's count, and what its list has below it
pub record ListedPlan (p : Project) (seeds : List ℕ) (r : Result ℕ Refusal) (list' : List ℕ) : Type 0 where
  pub count : ℕ
  pub counted : r ≡ Ok count
  pub planned : set_of (modules p) (take count list') ≡ plan_of p seeds

-- so an accepted call lists the plan
unfoldable pub TakingsCallsListThePlan : Type 0
TakingsCallsListThePlan =
    (t : Lent) (seeds list lengths : List ℕ) (r : Result ℕ Refusal) (list' lengths' : List ℕ) → TakingsFromSeeds t seeds list lengths r list' lengths'
    → takings_verdict t seeds (length list) (length lengths) ≡ None → ListedPlan t.project seeds r list'
