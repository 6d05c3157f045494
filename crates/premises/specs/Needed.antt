-- Each rule and each premise is needed: counterexamples.
-- Assumes nothing.
use Rattle.std.specs.Option.{is_none}
use Rattle.std.specs.Prelude.{◌≡◌, Bool, true, false, not, ◌&&◌, List, [], ◌∷◌, map, ℕ}
use Rattle.lists.specs.Words.{up_to, every, has}
use Rattle.tables.specs.Project.{Project, project, missing}
use Rattle.tables.specs.Readings.{modules, is_analysed}
use Rattle.tables.specs.Refusal.{refusal}
use Rattle.chunk_cycles.specs.Cycles.{labels_of}
use Rattle.eligibility.specs.Eligible.{eligible}
use Rattle.wrap_rules.specs.Plan.{expected_sensitive_of, Rule, suffix_rule, component_rule, import_rule, read_rule, asks, orders_of}
use Rattle.at_risk.specs.Promise.{actual_sensitive_of}
use Rattle.wrap_plan.specs.Promise.{plan_of}
use Rattle.order_analysis.specs.Promise.{whole_plan}
use Rattle.promises.specs.Changes.{with_imports, with_members, with_entry_chunks, with_sensitive, with_exports, with_dependencies, with_references}
use Rattle.marked_cases.specs.Listing.{listing}
use Rattle.marked_cases.specs.Calls.{whole_analysis}
use Rattle.marked_cases.specs.Cases.{Case, accepts, edge10}
use Rattle.promises.specs.Statements.{unplanned}
use Rattle.load_promises.specs.Load.{implies}

-- A rule: a set that holds the eligible seeds and is closed under the other three rules, and that the plan isn't within.

pub record NeededRule : Type 0 where
  pub on : Project
  pub seeds : List ℕ
  pub rule : Rule
  pub marks : List ℕ

-- what a rule asks for is in
abbrev pub closed_under : Project → List ℕ → Rule → Bool
closed_under p S rule = every (λ (m : ℕ). implies (asks (orders_of p) (labels_of p) p rule S m) (has S m)) (up_to (modules p))

abbrev pub others : Rule → List Rule
others suffix_rule = component_rule ∷ import_rule ∷ read_rule ∷ []
others component_rule = suffix_rule ∷ import_rule ∷ read_rule ∷ []
others import_rule = suffix_rule ∷ component_rule ∷ read_rule ∷ []
others read_rule = suffix_rule ∷ component_rule ∷ import_rule ∷ []

unfoldable pub is_needed : NeededRule → Bool
is_needed c =
    is_none (refusal c.on)
    && (every (λ (m : ℕ). implies (eligible c.on m) (has c.marks m)) c.seeds
    && (every (closed_under c.on c.marks) (others c.rule)
    && not (every (λ (m : ℕ). implies (has (plan_of c.on c.seeds) m) (has c.marks m)) (up_to (modules c.on)))))

-- module 1 insensitive: only its dependency and import bring it in
abbrev pub insensitive1 : Project
insensitive1 = with_sensitive listing (0 ∷ 0 ∷ 1 ∷ 1 ∷ [])

-- module 1 insensitive and without dependencies, and a statement of it, which isn't included, refers to a symbol of module 2
abbrev pub reads1 : Project
reads1 =
    with_references (with_dependencies insensitive1 [] []) (0 ∷ 1 ∷ 0 ∷ 0 ∷ []) (1 ∷ []) (0 ∷ []) (2 ∷ []) (0 ∷ []) (0 ∷ []) (0 ∷ []) (0 ∷ [])

unfoldable pub needed_rules : List NeededRule
needed_rules =
    record { on = listing; seeds = 2 ∷ []; rule = suffix_rule; marks = 0 ∷ 1 ∷ 1 ∷ 0 ∷ [] }
    ∷ record { on = edge10; seeds = 1 ∷ []; rule = component_rule; marks = 0 ∷ 1 ∷ 0 ∷ 0 ∷ [] }
    ∷ record { on = insensitive1; seeds = 2 ∷ []; rule = import_rule; marks = 0 ∷ 0 ∷ 1 ∷ 1 ∷ [] }
    ∷ record { on = reads1; seeds = 2 ∷ []; rule = read_rule; marks = 0 ∷ 0 ∷ 1 ∷ 1 ∷ [] }
    ∷ []

unfoldable pub EachRuleIsNeeded : Type 0
EachRuleIsNeeded = every is_needed needed_rules ≡ true

-- A premise of `WholePlanKeepsTheOrder`: without it the two orders, planned modules struck out, differ.

pub record NeededPremise : Type 0 where
  pub on : Project
  pub root : ℕ
  -- which of the premises hold
  pub analysed : Bool
  pub expected_eligible : Bool
  pub actual_eligible : Bool
  -- the two sensitive orders without the planned modules
  pub expected : List ℕ
  pub actual : List ℕ

abbrev found : Project → ℕ → NeededPremise
found p root = record {
  on = p;
  root = root;
  analysed = is_analysed p root;
  expected_eligible = every (eligible p) (expected_sensitive_of p root);
  actual_eligible = every (eligible p) (actual_sensitive_of p root);
  expected = unplanned (whole_plan p) (expected_sensitive_of p root);
  actual = unplanned (whole_plan p) (actual_sensitive_of p root);
}

-- module 3 is CommonJs, and no chunk's member
abbrev absent3 : Project
absent3 = with_members (with_exports listing (1 ∷ 1 ∷ 1 ∷ 2 ∷ [])) (0 ∷ 0 ∷ 1 ∷ []) (2 ∷ 1 ∷ 0 ∷ [])

-- the runtime is external, and the first module, CommonJs, is sensitive and no import of the entry
abbrev phantom : Project
phantom = project 4 0 (1 ∷ 1 ∷ 1 ∷ 1 ∷ 0 ∷ []) (1 ∷ 1 ∷ 1 ∷ 1 ∷ 1 ∷ []) (1 ∷ 1 ∷ 1 ∷ 1 ∷ 0 ∷ []) (0 ∷ 0 ∷ 0 ∷ 0 ∷ 0 ∷ []) (2 ∷ 1 ∷ 1 ∷ 1 ∷ 0 ∷ []) (0 ∷ 0 ∷ 0 ∷ 0 ∷ 0 ∷ []) (1 ∷ 0 ∷ 0 ∷ 1 ∷ missing ∷ []) (missing ∷ missing ∷ missing ∷ missing ∷ missing ∷ []) (1 ∷ 1 ∷ []) (0 ∷ 0 ∷ []) (2 ∷ 3 ∷ []) [] [] [] [] [] [] [] [] [] [] [] [] [] [] [] (1 ∷ 0 ∷ []) (0 ∷ 0 ∷ 1 ∷ 1 ∷ []) (2 ∷ 1 ∷ 0 ∷ 3 ∷ []) (0 ∷ []) (1 ∷ []) (1 ∷ []) (0 ∷ []) []

-- the entry has no chunk
abbrev unplaced : Project
unplaced = with_entry_chunks listing (missing ∷ [])

unfoldable pub needed_premises : List NeededPremise
needed_premises =
    record {
      on = absent3;
      root = 1;
      analysed = true;
      expected_eligible = false;
      actual_eligible = true;
      expected = 2 ∷ 3 ∷ 1 ∷ [];
      actual = 2 ∷ 1 ∷ [];
    }
    ∷ record {
      on = phantom;
      root = 1;
      analysed = true;
      expected_eligible = true;
      actual_eligible = false;
      expected = 2 ∷ [];
      actual = 0 ∷ 2 ∷ [];
    }
    ∷ record {
      on = unplaced;
      root = 1;
      analysed = false;
      expected_eligible = true;
      actual_eligible = true;
      expected = 2 ∷ 3 ∷ 1 ∷ [];
      actual = [];
    }
    ∷ []

unfoldable pub EachPremiseIsNeeded : Type 0
EachPremiseIsNeeded =
    (map (λ (c : NeededPremise). found c.on c.root) needed_premises ≡ needed_premises)
    × (every (λ (c : NeededPremise). is_none (refusal c.on)) needed_premises ≡ true)

-- The whole analysis isn't kept by more imports: chunk 1 loads chunk 2 first, the order is right, and nothing is at risk.

abbrev three_chunks : Project
three_chunks = project 0 0 (1 ∷ 1 ∷ 1 ∷ 1 ∷ []) (1 ∷ 1 ∷ 1 ∷ 1 ∷ []) (0 ∷ 1 ∷ 1 ∷ 1 ∷ []) (0 ∷ 0 ∷ 0 ∷ 0 ∷ []) (1 ∷ 1 ∷ 1 ∷ 1 ∷ []) (0 ∷ 0 ∷ 0 ∷ 0 ∷ []) (0 ∷ 0 ∷ 2 ∷ 1 ∷ []) (missing ∷ missing ∷ missing ∷ missing ∷ []) (1 ∷ 1 ∷ []) (0 ∷ 0 ∷ []) (2 ∷ 3 ∷ []) [] [] [] [] [] [] [] [] [] [] [] [] [] [] [] (2 ∷ 0 ∷ 1 ∷ []) (0 ∷ 0 ∷ 1 ∷ 2 ∷ []) (0 ∷ 1 ∷ 3 ∷ 2 ∷ []) (0 ∷ 0 ∷ []) (1 ∷ 2 ∷ []) (1 ∷ []) (0 ∷ []) []

unfoldable pub lost_by_imports : List Case
lost_by_imports =
    accepts three_chunks (whole_analysis (9 ∷ 9 ∷ 9 ∷ 9 ∷ [])) 2 ((0 ∷ 1 ∷ 0 ∷ 1 ∷ []) ∷ [])
    ∷ accepts (with_imports three_chunks (0 ∷ 0 ∷ 1 ∷ []) (1 ∷ 2 ∷ 2 ∷ [])) (whole_analysis (9 ∷ 9 ∷ 9 ∷ 9 ∷ [])) 0 ((0 ∷ 0 ∷ 0 ∷ 0 ∷ []) ∷ [])
    ∷ []
