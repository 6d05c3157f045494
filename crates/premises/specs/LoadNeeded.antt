-- The load theorem's premises: a listing that meets them with a plan that isn't empty, and for each premise one that fails without it alone.
-- Assumes nothing.
use Rattle.std.specs.Option.{is_none}
use Rattle.std.specs.Prelude.{◌≡◌, Bool, true, false, ◌&&◌, List, [], ◌∷◌, map, ℕ, None}
use Rattle.lists.specs.Words.{keep, every, has}
use Rattle.tables.specs.Project.{Project}
use Rattle.tables.specs.Readings.{is_analysed}
use Rattle.tables.specs.Refusal.{refusal}
use Rattle.entry_run.specs.Actual.{run_of, read_as_two}
use Rattle.sensitivity.specs.Marks.{sensitive}
use Rattle.eligibility.specs.Eligible.{eligible}
use Rattle.wrap_rules.specs.Plan.{expected_sensitive_of, import_rule}
use Rattle.order_analysis.specs.Promise.{seeds_of, whole_plan}
use Rattle.promises.specs.Changes.{with_members, with_sensitive, with_exports, with_records, with_dependencies}
use Rattle.marked_cases.specs.Listing.{listing}
use Rattle.premises.specs.Needed.{closed_under, others}
use Rattle.load_promises.specs.Load.{implies, planned_wraps, only_eligible, no_require, imports_are_dependencies, members_belong, Plain}

-- the listing of document 01: as written its load runs 3 before 2, and with its plan {1,3} after it
pub record PlainWitness : Type 0 where
  pub accepted : refusal listing ≡ None
  pub plain : Plain listing
  pub analysed : is_analysed listing 1 ≡ true
  pub plan : whole_plan listing ≡ 0 ∷ 1 ∷ 0 ∷ 1 ∷ []
  pub loaded : (run_of listing (planned_wraps listing) 1).listed ≡ 0 ∷ 2 ∷ 3 ∷ 1 ∷ []
  pub expected : expected_sensitive_of listing 1 ≡ 2 ∷ 3 ∷ 1 ∷ []

-- which of the premises hold, and the two orders
pub record LoadCase : Type 0 where
  pub on : Project
  pub root : ℕ
  pub eligibles : Bool
  pub requires : Bool
  pub dependencies : Bool
  pub members : Bool
  pub expected : List ℕ
  pub loaded : List ℕ

abbrev load_case : Project → ℕ → LoadCase
load_case p root = record {
  on = p;
  root = root;
  eligibles = only_eligible p;
  requires = no_require p;
  dependencies = imports_are_dependencies p;
  members = members_belong p;
  expected = expected_sensitive_of p root;
  loaded = keep (sensitive p) (run_of p (planned_wraps p) root).listed;
}

-- (a) module 3 is CommonJs: it is never planned, and runs with its chunk
abbrev common_js3 : Project
common_js3 = with_exports listing (1 ∷ 1 ∷ 1 ∷ 2 ∷ [])

-- (b) module 2 requires the planned module 3, and so runs it first
abbrev require23 : Project
require23 = with_records listing (1 ∷ 1 ∷ 2 ∷ []) (0 ∷ 0 ∷ 1 ∷ []) (2 ∷ 3 ∷ 3 ∷ [])

-- (c) the entry is insensitive and has no dependencies, so it isn't planned, and runs the planned module 3 before its chunk runs module 2
abbrev independent1 : Project
independent1 = with_members (with_dependencies (with_sensitive listing (0 ∷ 0 ∷ 1 ∷ 1 ∷ [])) [] []) (0 ∷ 0 ∷ 1 ∷ 1 ∷ []) (1 ∷ 2 ∷ 0 ∷ 3 ∷ [])

-- (d) the runtime imports the planned module 3, and so runs it first
abbrev runtime03 : Project
runtime03 = with_records listing (0 ∷ 1 ∷ 1 ∷ []) (0 ∷ 0 ∷ 0 ∷ []) (3 ∷ 2 ∷ 3 ∷ [])

-- (d) module 2 is CommonJs and a member of the entry's chunk, and no entry reaches it
abbrev unreached2 : Project
unreached2 = with_dependencies (with_records (with_exports listing (1 ∷ 1 ∷ 2 ∷ 1 ∷ [])) (1 ∷ []) (0 ∷ []) (3 ∷ [])) (1 ∷ []) (3 ∷ [])

unfoldable pub load_cases : List LoadCase
load_cases =
    record {
      on = common_js3;
      root = 1;
      eligibles = false;
      requires = true;
      dependencies = true;
      members = true;
      expected = 2 ∷ 3 ∷ 1 ∷ [];
      loaded = 3 ∷ 2 ∷ 1 ∷ [];
    }
    ∷ record {
      on = require23;
      root = 1;
      eligibles = true;
      requires = false;
      dependencies = true;
      members = true;
      expected = 2 ∷ 3 ∷ 1 ∷ [];
      loaded = 3 ∷ 2 ∷ 1 ∷ [];
    }
    ∷ record {
      on = independent1;
      root = 1;
      eligibles = true;
      requires = true;
      dependencies = false;
      members = true;
      expected = 2 ∷ 3 ∷ [];
      loaded = 3 ∷ 2 ∷ [];
    }
    ∷ record {
      on = runtime03;
      root = 1;
      eligibles = true;
      requires = true;
      dependencies = true;
      members = false;
      expected = 2 ∷ 3 ∷ 1 ∷ [];
      loaded = 3 ∷ 2 ∷ 1 ∷ [];
    }
    ∷ record {
      on = unreached2;
      root = 1;
      eligibles = true;
      requires = true;
      dependencies = true;
      members = false;
      expected = 3 ∷ 1 ∷ [];
      loaded = 3 ∷ 2 ∷ 1 ∷ [];
    }
    ∷ []

-- each is accepted and its root analysed
unfoldable pub EachPlainPremiseIsNeeded : Type 0
EachPlainPremiseIsNeeded =
    (map (λ (c : LoadCase). load_case c.on c.root) load_cases ≡ load_cases)
    × (every (λ (c : LoadCase). is_none (refusal c.on) && is_analysed c.on c.root) load_cases ≡ true)

-- rule (iii): the entry is insensitive and stands before module 2 in its chunk
abbrev entry_first : Project
entry_first = with_members (with_sensitive listing (0 ∷ 0 ∷ 1 ∷ 1 ∷ [])) (0 ∷ 0 ∷ 1 ∷ 1 ∷ []) (1 ∷ 2 ∷ 0 ∷ 3 ∷ [])

-- a set that holds the seeds and is closed under the other three rules
abbrev without_importer : List ℕ
without_importer = 0 ∷ 0 ∷ 0 ∷ 1 ∷ []

-- with just this set wrapped, the load of a plain project runs module 3 before module 2
pub record ImportRuleIsNeededForTheLoad : Type 0 where
  pub accepted : refusal entry_first ≡ None
  pub plain : Plain entry_first
  pub analysed : is_analysed entry_first 1 ≡ true
  pub seeds : every (λ (m : ℕ). implies (eligible entry_first m) (has without_importer m)) (seeds_of entry_first) ≡ true
  pub closed : every (closed_under entry_first without_importer) (others import_rule) ≡ true
  pub loaded : keep (sensitive entry_first) (run_of entry_first (read_as_two without_importer entry_first.wrap) 1).listed ≡ 3 ∷ 2 ∷ []
  pub expected : expected_sensitive_of entry_first 1 ≡ 2 ∷ 3 ∷ []
