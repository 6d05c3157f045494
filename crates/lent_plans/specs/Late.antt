-- What is promised of planning on from an old plan, and of the order in which a plan's members join.
-- Each statement is a type; `proofs/` inhabits it under the same name in small letters.
-- Assumes nothing.
use Rattle.std.specs.Prelude.{◌≡◌, Bool, true, false, ◌&&◌, ◌||◌, List, ℕ, length, take, None, Result}
use Rattle.lists.specs.Words.{elem, has, ones}
use Rattle.walk.specs.Joining.{set_of, Joins, Place}
use Rattle.tables.specs.Project.{Project}
use Rattle.tables.specs.Readings.{modules}
use Rattle.tables.specs.Answers.{refused_of, count_of}
use Rattle.tables.specs.declared.Refusal.{Refusal}
use Rattle.table.specs.Table.{Lent}
use Rattle.chunk_cycles.specs.Cycles.{labels_of}
use Rattle.eligibility.specs.Eligible.{eligible}
use Rattle.wrap_rules.specs.Plan.{Rule, asks, orders_of}
use Rattle.wrap_plan.specs.Promise.{plan_of, PlanFromSeeds}
use Rattle.promises.specs.Statements.{LeavesPlan}

-- the members of a lent list are those that pass a test, in whatever order and however often
unfoldable pub MembersAre : List ℕ → (ℕ → Bool) → Type 0
MembersAre list test = (m : ℕ) → elem m list ≡ test m

-- planning from the old plan's members together with later seeds gives the plan from all the seeds together
unfoldable pub LateSeedsJoin : Type 0
LateSeedsJoin =
    (p : Project) (seeds later grown all : List ℕ) → MembersAre grown (λ (m : ℕ). has (plan_of p seeds) m || elem m later)
    → MembersAre all (λ (m : ℕ). elem m seeds || elem m later) → plan_of p grown ≡ plan_of p all

-- planning from a finished plan gives that plan again
unfoldable pub FinishedPlansStay : Type 0
FinishedPlansStay = (p : Project) (seeds members : List ℕ) → MembersAre members (has (plan_of p seeds)) → plan_of p members ≡ plan_of p seeds

-- one of the four rules, named, asks for m with just the modules of a set planned
pub data AskedFor (p : Project) (planned : List ℕ) (m : ℕ) : Type 0 where
  ruled : (rule : Rule) → asks (orders_of p) (labels_of p) p rule planned m ≡ true → AskedFor p planned m

-- m may join those before it: it is an eligible seed, or asked for with just those before it planned
pub data MayJoin (p : Project) (seeds before : List ℕ) (m : ℕ) : Type 0 where
  as_seed : eligible p m ≡ true → elem m seeds ≡ true → MayJoin p seeds before m
  by_rule : AskedFor p (set_of (modules p) before) m → MayJoin p seeds before m

-- an order of joining of a plan's members, each once and as many as the count; each that isn't an eligible seed is asked for by a rule with
-- just those before it planned
pub record JoiningOrder (p : Project) (seeds plan : List ℕ) (count : ℕ) : Type 0 where
  pub order : List ℕ
  pub joins : Joins (MayJoin p seeds) order
  pub members : MembersAre order (has plan)
  pub counted : length order ≡ count
  pub others : (m : ℕ) → has plan m ≡ true → (eligible p m && elem m seeds) ≡ false → Place (λ (before : List ℕ) (x : ℕ). AskedFor p (set_of (modules p) before) x) order m

unfoldable pub PlansJoinInOrder : Type 0
PlansJoinInOrder = (p : Project) (seeds : List ℕ) → JoiningOrder p seeds (plan_of p seeds) (ones (plan_of p seeds))

-- The same about calls.

-- an accepted call: the slice that it is lent, its answer, and the slice that it leaves
pub record AcceptedCall (t : Lent) (seeds : List ℕ) : Type 0 where
  pub slice : List ℕ
  pub answer : Result ℕ Refusal
  pub left : List ℕ
  pub promise : PlanFromSeeds t seeds slice answer left
  pub accepted : refused_of answer ≡ None

-- the modules' marks in a slice
abbrev pub marked : Project → List ℕ → List ℕ
marked p slice = take (modules p) slice

-- three calls: one from the old seeds, one from the members that it marked together with later seeds, and one from all the seeds together; the
-- second leaves the marks of the third, and counts them
unfoldable pub LateCallsJoin : Type 0
LateCallsJoin =
    (t : Lent) (seeds later grown all : List ℕ) (old : AcceptedCall t seeds) (on : AcceptedCall t grown) (whole : AcceptedCall t all)
    → MembersAre grown (λ (m : ℕ). has (marked t.project old.left) m || elem m later) → MembersAre all (λ (m : ℕ). elem m seeds || elem m later)
    → LeavesPlan t.project (marked t.project whole.left) on.slice on.answer on.left

-- a call from the members that an earlier one marked leaves these marks again
unfoldable pub FinishedCallsStay : Type 0
FinishedCallsStay =
    (t : Lent) (seeds members : List ℕ) (old : AcceptedCall t seeds) (again : AcceptedCall t members)
    → MembersAre members (has (marked t.project old.left))
    → LeavesPlan t.project (marked t.project old.left) again.slice again.answer again.left

-- the modules that a call marks join in an order as long as its count
unfoldable pub CallsJoinInOrder : Type 0
CallsJoinInOrder =
    (t : Lent) (seeds : List ℕ) (call : AcceptedCall t seeds) → JoiningOrder t.project seeds (marked t.project call.left) (count_of call.answer)
