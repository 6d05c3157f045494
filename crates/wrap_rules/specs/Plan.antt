-- "Plan from seeds": the eligible seeds, closed under the four rules.
-- Assumes nothing.
use Rattle.std.specs.Prelude.{Bool, ◌&&◌, ◌||◌, List, map, ℕ, get_or}
use Rattle.lists.specs.Words.{keep, elem, marks_of}
use Rattle.walk.specs.Walk.{everywhere, post_order}
use Rattle.walk.specs.Close.{close}
use Rattle.tables.specs.Project.{Project}
use Rattle.tables.specs.Readings.{modules, is_import, normal_target, targets_of, analysed}
use Rattle.expected_visit.specs.OfProject.{expected_of}
use Rattle.sensitivity.specs.Marks.{sensitive}
use Rattle.eligibility.specs.Eligible.{eligible}
use Rattle.wrap_rules.specs.Rules.{suffix_asks, component_asks, import_asks, read_asks}

-- the modules of the analysed entries, in row order
abbrev pub roots : Project → List ℕ
roots p = map (λ (row : ℕ). get_or p.entry row 0) (analysed p)

-- an entry's expected sensitive order: "its expected .. order with all but the sensitive modules left out"
unfoldable pub expected_sensitive_of : Project → ℕ → List ℕ
expected_sensitive_of p root = keep (sensitive p) (expected_of p root)

-- the analysed entries' expected sensitive orders, in row order
unfoldable pub orders_of : Project → List (List ℕ)
orders_of p = map (expected_sensitive_of p) (roots p)

-- "reached by kind 0 records over normal modules from an analysed entry, the entry itself counted"
unfoldable pub reached : Project → ℕ → Bool
reached p m =
    elem m (post_order (targets_of is_import normal_target p.normal p.record_module p.record_kind p.record_target) everywhere (modules p) (roots p))

-- the four rules (i) to (iv)
pub data Rule : Type 0 where
  suffix_rule component_rule import_rule read_rule : Rule

-- `orders` are the analysed entries' expected sensitive orders, `labels` the chunks' labels
module _ (orders : List (List ℕ)) (labels : List ℕ) (p : Project) where
  -- a rule asks for m
  abbrev pub asks : Rule → List ℕ → ℕ → Bool
  asks suffix_rule S m = suffix_asks (eligible p) orders S m
  asks component_rule S m = component_asks (sensitive p) (eligible p) labels p S m
  asks import_rule S m = import_asks (eligible p) (reached p) p S m
  asks read_rule S m = read_asks (eligible p) (reached p) p S m

  -- one of the four rules asks for m
  unfoldable pub asked : List ℕ → ℕ → Bool
  asked S m = asks suffix_rule S m || (asks component_rule S m || (asks import_rule S m || asks read_rule S m))

  -- "Start with the eligible seeds"
  unfoldable pub start : List ℕ → List ℕ
  start seeds = marks_of (λ (m : ℕ). eligible p m && elem m seeds) (modules p)

  -- the plan from seeds: 0 or 1 for each module
  unfoldable pub plan_from : List ℕ → List ℕ
  plan_from seeds = close asked (start seeds)
