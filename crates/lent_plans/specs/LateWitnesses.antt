-- For each promise of `Late` with premises, a listing that meets them, with a conclusion that isn't empty; and for each rule a module that joins by
-- it alone.
-- Assumes nothing.
use Rattle.std.specs.Prelude.{◌≡◌, Bool, true, false, not, ◌&&◌, ◌||◌, List, [], ◌∷◌, ℕ, Ok}
use Rattle.lists.specs.Words.{any, every, elem, has}
use Rattle.walk.specs.Joining.{set_of, Joins}
use Rattle.tables.specs.Project.{Project, project, missing}
use Rattle.tables.specs.Readings.{modules}
use Rattle.chunk_cycles.specs.Cycles.{labels_of}
use Rattle.eligibility.specs.Eligible.{eligible}
use Rattle.wrap_rules.specs.Plan.{Rule, suffix_rule, component_rule, import_rule, read_rule, asks, orders_of}
use Rattle.wrap_plan.specs.Promise.{plan_of, PlanFromSeeds}
use Rattle.marked_cases.specs.Calls.{lent_by}
use Rattle.marked_cases.specs.Listing.{listing}
use Rattle.marked_cases.specs.Cases.{edge10}
use Rattle.premises.specs.Needed.{others, insensitive1, reads1}
use Rattle.lent_plans.specs.Late.{MembersAre, MayJoin, marked}

-- entry 3 imports module 1, and entry 4 imports module 2
abbrev pub two_entries : Project
two_entries = project 0 0 (1 ∷ 1 ∷ 1 ∷ 1 ∷ 1 ∷ []) (1 ∷ 1 ∷ 1 ∷ 1 ∷ 1 ∷ []) (0 ∷ 1 ∷ 1 ∷ 1 ∷ 1 ∷ []) (0 ∷ 0 ∷ 0 ∷ 0 ∷ 0 ∷ []) (1 ∷ 1 ∷ 1 ∷ 1 ∷ 1 ∷ []) (0 ∷ 0 ∷ 0 ∷ 0 ∷ 0 ∷ []) (0 ∷ 0 ∷ 1 ∷ 0 ∷ 1 ∷ []) (missing ∷ missing ∷ missing ∷ missing ∷ missing ∷ []) (3 ∷ 4 ∷ []) (0 ∷ 0 ∷ []) (1 ∷ 2 ∷ []) [] [] [] [] [] [] [] [] [] [] [] [] [] [] [] (0 ∷ 1 ∷ []) (0 ∷ 0 ∷ 0 ∷ 1 ∷ 1 ∷ []) (0 ∷ 1 ∷ 3 ∷ 2 ∷ 4 ∷ []) [] [] (3 ∷ 4 ∷ []) (0 ∷ 1 ∷ []) []

-- the plan from 1 has 3 besides; 2 comes later, and then 4 joins; the later seed is lent twice
pub record LateSeedsWitness : Type 0 where
  pub old : plan_of two_entries (1 ∷ []) ≡ 0 ∷ 1 ∷ 0 ∷ 1 ∷ 0 ∷ []
  pub grown : MembersAre (2 ∷ 3 ∷ 1 ∷ 2 ∷ []) (λ (m : ℕ). has (plan_of two_entries (1 ∷ [])) m || elem m (2 ∷ []))
  pub all : MembersAre (2 ∷ 1 ∷ []) (λ (m : ℕ). elem m (1 ∷ []) || elem m (2 ∷ []))
  pub plan : plan_of two_entries (2 ∷ 1 ∷ []) ≡ 0 ∷ 1 ∷ 1 ∷ 1 ∷ 1 ∷ []

-- the members of a finished plan, one of them twice
pub record FinishedPlanWitness : Type 0 where
  pub members : MembersAre (3 ∷ 1 ∷ 3 ∷ []) (has (plan_of two_entries (1 ∷ [])))
  pub plan : plan_of two_entries (1 ∷ []) ≡ 0 ∷ 1 ∷ 0 ∷ 1 ∷ 0 ∷ []

-- the same as accepted calls, each with one place past the marks
pub record LateCallsWitness : Type 0 where
  pub old : PlanFromSeeds (lent_by two_entries) (1 ∷ []) (9 ∷ 9 ∷ 9 ∷ 9 ∷ 9 ∷ 7 ∷ []) (Ok 2) (0 ∷ 1 ∷ 0 ∷ 1 ∷ 0 ∷ 7 ∷ [])
  pub on : PlanFromSeeds (lent_by two_entries) (2 ∷ 3 ∷ 1 ∷ 2 ∷ []) (8 ∷ 8 ∷ 8 ∷ 8 ∷ 8 ∷ 6 ∷ []) (Ok 4) (0 ∷ 1 ∷ 1 ∷ 1 ∷ 1 ∷ 6 ∷ [])
  pub whole : PlanFromSeeds (lent_by two_entries) (2 ∷ 1 ∷ []) (9 ∷ 9 ∷ 9 ∷ 9 ∷ 9 ∷ 7 ∷ []) (Ok 4) (0 ∷ 1 ∷ 1 ∷ 1 ∷ 1 ∷ 7 ∷ [])
  pub again : PlanFromSeeds (lent_by two_entries) (3 ∷ 1 ∷ 3 ∷ []) (8 ∷ 8 ∷ 8 ∷ 8 ∷ 8 ∷ 6 ∷ []) (Ok 2) (0 ∷ 1 ∷ 0 ∷ 1 ∷ 0 ∷ 6 ∷ [])
  pub grown : MembersAre (2 ∷ 3 ∷ 1 ∷ 2 ∷ []) (λ (m : ℕ). has (marked two_entries (0 ∷ 1 ∷ 0 ∷ 1 ∷ 0 ∷ 7 ∷ [])) m || elem m (2 ∷ []))
  pub all : MembersAre (2 ∷ 1 ∷ []) (λ (m : ℕ). elem m (1 ∷ []) || elem m (2 ∷ []))
  pub members : MembersAre (3 ∷ 1 ∷ 3 ∷ []) (has (marked two_entries (0 ∷ 1 ∷ 0 ∷ 1 ∷ 0 ∷ 7 ∷ [])))

-- an order of joining of four, two of them outside the seeds; with 2 alone before it, 3 may not join yet
pub record JoiningWitness : Type 0 where
  pub joins : Joins (MayJoin two_entries (1 ∷ 2 ∷ [])) (2 ∷ 4 ∷ 1 ∷ 3 ∷ [])
  pub planned : has (plan_of two_entries (1 ∷ 2 ∷ [])) 3 ≡ true
  pub outside : (eligible two_entries 3 && elem 3 (1 ∷ 2 ∷ [])) ≡ false
  pub not_yet : MayJoin two_entries (1 ∷ 2 ∷ []) (2 ∷ []) 3 → ⊥

-- A rule by which a module joins: with just eligible seeds before it planned, that rule and no other asks for it.
pub record Joining : Type 0 where
  pub on : Project
  pub seeds : List ℕ
  pub joins : ℕ
  pub rule : Rule

abbrev asks_after_seeds : Joining → Rule → Bool
asks_after_seeds c rule = asks (orders_of c.on) (labels_of c.on) c.on rule (set_of (modules c.on) c.seeds) c.joins

unfoldable pub joins_by_its_rule : Joining → Bool
joins_by_its_rule c =
    every (eligible c.on) c.seeds
    && (not (elem c.joins c.seeds) && (asks_after_seeds c c.rule && not (any (asks_after_seeds c) (others c.rule))))

unfoldable pub joinings : List Joining
joinings =
    record { on = listing; seeds = 2 ∷ []; joins = 3; rule = suffix_rule }
    ∷ record { on = edge10; seeds = 1 ∷ []; joins = 2; rule = component_rule }
    ∷ record { on = insensitive1; seeds = 2 ∷ []; joins = 1; rule = import_rule }
    ∷ record { on = reads1; seeds = 2 ∷ []; joins = 1; rule = read_rule }
    ∷ []

unfoldable pub EachRuleJoins : Type 0
EachRuleJoins = every joins_by_its_rule joinings ≡ true
