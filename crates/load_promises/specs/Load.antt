-- The load theorem: with its plan, a load runs the sensitive modules in their expected order.
-- Assumes nothing.
use Rattle.std.specs.Prelude.{◌≡◌, Bool, true, not, ◌&&◌, ◌||◌, List, ℕ, length, get_or, eqb, None}
use Rattle.lists.specs.Words.{up_to, keep, every, elem}
use Rattle.tables.specs.Project.{Project}
use Rattle.tables.specs.Readings.{modules, is_normal, is_import, normal_target, targets_of, rows_of, values_of, is_analysed}
use Rattle.tables.specs.Refusal.{refusal}
use Rattle.entry_run.specs.Actual.{executes, run_of, read_as_two}
use Rattle.sensitivity.specs.Marks.{sensitive}
use Rattle.eligibility.specs.Eligible.{eligible}
use Rattle.wrap_rules.specs.Plan.{expected_sensitive_of, reached}
use Rattle.order_analysis.specs.Promise.{whole_plan}

-- if a, then b
abbrev pub implies : Bool → Bool → Bool
implies a b = not a || b

-- the wraps with the whole analysis' plan carried out
abbrev pub planned_wraps : Project → List ℕ
planned_wraps p = read_as_two (whole_plan p) p.wrap

module _ (p : Project) where
  -- a normal module that is "reached from an analysed entry by kind 0 records over normal modules (the entry counted)"
  abbrev pub reached_normal : ℕ → Bool
  reached_normal m = reached p m && is_normal p.normal m

  -- the normal targets of a module's kind 0 records
  abbrev pub normal_imports : ℕ → List ℕ
  normal_imports = targets_of is_import normal_target p.normal p.record_module p.record_kind p.record_target

  -- (a) each is eligible
  unfoldable pub only_eligible : Bool
  only_eligible = every (λ (m : ℕ). implies (reached_normal m) (eligible p m)) (up_to (modules p))

  -- (b) none has a record of kind 1
  unfoldable pub no_require : Bool
  no_require = every (λ (m : ℕ). implies (reached_normal m) (not (elem 1 (values_of p.record_module p.record_kind m)))) (up_to (modules p))

  -- (c) each normal target of its kind 0 records is among its dependencies
  unfoldable pub imports_are_dependencies : Bool
  imports_are_dependencies =
      every (λ (m : ℕ). implies (reached_normal m) (every (λ (t : ℕ). elem t (values_of p.dependency_module p.dependency m)) (normal_imports m)))
      (up_to (modules p))

  -- so reached, or the runtime without a record
  abbrev pub belongs : ℕ → Bool
  belongs m = reached p m || (eqb m p.runtime && eqb (length (rows_of p.record_module m)) 0)

  -- (d) every module of a member row that is normal and included belongs
  unfoldable pub members_belong : Bool
  members_belong =
      every (λ (row : ℕ). implies (executes p.normal p.included (get_or p.member row 0)) (belongs (get_or p.member row 0)))
      (up_to (length p.member_chunk))

-- a plain project
pub record Plain (p : Project) : Type 0 where
  pub eligibles : only_eligible p ≡ true
  pub requires : no_require p ≡ true
  pub dependencies : imports_are_dependencies p ≡ true
  pub members : members_belong p ≡ true

-- in every accepted plain project, for every analysed entry, the load with the whole plan's modules wrapped runs the modules that are
-- sensitive in the project as written in the entry's expected sensitive order
unfoldable pub PlannedLoadKeepsTheOrder : Type 0
PlannedLoadKeepsTheOrder =
    (p : Project) (root : ℕ) → refusal p ≡ None → Plain p → is_analysed p root ≡ true
    → keep (sensitive p) (run_of p (planned_wraps p) root).listed ≡ expected_sensitive_of p root
