-- "only eligible modules, holds the eligible seeds and is closed under the four rules": the six conditions of a plan, and what is said of one.
-- Assumes nothing.
use Rattle.std.specs.Prelude.{ℕ, zero, suc, ◌+◌, ◌*◌, ◌^◌, Bool, not, ◌&&◌, List, [], ◌∷◌, map, Option, None, Some}
use Rattle.lists.specs.Words.{up_to, keep, elem, has}
use Rattle.tables.specs.Project.{Project}
use Rattle.tables.specs.Readings.{modules}
use Rattle.chunk_cycles.specs.Cycles.{labels_of}
use Rattle.eligibility.specs.Eligible.{eligible}
use Rattle.wrap_rules.specs.Plan.{Rule, suffix_rule, component_rule, import_rule, read_rule, asks, orders_of}
use Rattle.plan_conditions.specs.declared.Judgement.{Judgement}
use Rattle.plan_conditions.specs.declared.Judgement.TheVariants.{Accepted, Broken}

pub data Condition : Type 0 where
  only_eligible : Condition
  holds_seeds : Condition
  closed_under : Rule → Condition

-- "in the order eligible, seeds, (i), (ii), (iii), (iv)"
abbrev pub conditions : List Condition
conditions = only_eligible ∷ holds_seeds ∷ closed_under suffix_rule ∷ closed_under component_rule ∷ closed_under import_rule ∷ closed_under read_rule ∷ []

-- module m breaks a condition of a plan: it is "wrong", in the plan and not eligible, or "lacking", asked for with the plan as it is given and not in it
abbrev pub broken : Project → List ℕ → List ℕ → Condition → ℕ → Bool
broken p seeds plan only_eligible m = has plan m && not (eligible p m)
broken p seeds plan holds_seeds m = (eligible p m && elem m seeds) && not (has plan m)
broken p seeds plan (closed_under rule) m = asks (orders_of p) (labels_of p) p rule plan m && not (has plan m)

-- the first of a list, if there is one
abbrev pub first : List ℕ → Option ℕ
first [] = None
first (m ∷ ms) = Some m

-- "the lowest module" below n that passes a test, if there is one
abbrev pub lowest : (ℕ → Bool) → ℕ → Option ℕ
lowest test n = first (keep test (up_to n))

-- "the first broken condition": the first of these for which there is a module, with its number from i on
abbrev pub first_broken : ℕ → List (Option ℕ) → Judgement
first_broken i [] = Accepted
first_broken i (None ∷ ms) = first_broken (suc i) ms
first_broken i (Some m ∷ ms) = Broken i m

-- what is said of a plan: accepted, or the number of the first broken condition, from 1 on, and the lowest module that breaks it
unfoldable pub judged : Project → List ℕ → List ℕ → Judgement
judged p seeds plan = first_broken 1 (map (λ (condition : Condition). lowest (broken p seeds plan condition) (modules p)) conditions)

-- what is said of a plan as one number: 0 where it is accepted, the number of the broken condition times 2 ^ 16 plus the module
abbrev pub judgement_number : Judgement → ℕ
judgement_number Accepted = zero
judgement_number (Broken condition m) = condition * 2 ^ 16 + m
