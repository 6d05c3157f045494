-- "Trying a plan before loading it": what the steps show, and that a plan that is carried out keeps the order.
-- Each statement is a type; `proofs/` inhabits it under the same name in small letters.
-- Assumes nothing.
use Rattle.std.specs.Prelude.{◌≡◌, true, List, map, ℕ, ◌≤◌, ◌<◌, length, get_or, take, replicate, Option, None, Some, Ok}
use Rattle.lists.specs.Words.{up_to, keep}
use Rattle.tables.specs.Project.{Project, missing}
use Rattle.tables.specs.Readings.{modules, is_analysed}
use Rattle.tables.specs.Refusal.{refusal}
use Rattle.table.specs.Table.{Lent}
use Rattle.entry_run.specs.Actual.{actual_of, hosts_of}
use Rattle.sensitivity.specs.Marks.{sensitive}
use Rattle.wrap_rules.specs.Plan.{expected_sensitive_of}
use Rattle.order_analysis.specs.Promise.{whole_plan}
use Rattle.plan_conditions.specs.Form.{plan_fits}
use Rattle.load_promises.specs.Load.{Plain}
use Rattle.planned_load.specs.Steps.{planned_run, step_at, step_of, step_modules, step_hosts}
use Rattle.wraps_and_hosts.specs.Hosts.{host_by}
use Rattle.planned_load.specs.declared.LoadStep.{LoadStep}
use Rattle.load_trial.specs.Promise.{load_step, LoadRun}

-- a step that lists m under a host
abbrev pub shown : ℕ → ℕ → Option LoadStep
shown m host = Some (record { «module» = m; host = host })

-- "The first n steps show that order's first n places": each its module and its host
unfoldable pub FirstStepsAreFirstPlaces : Type 0
FirstStepsAreFirstPlaces =
    (p : Project) (plan : List ℕ) (root n : ℕ) → let run = planned_run p plan root in
    n ≤ length run.listed → map (step_of p plan root) (up_to n) ≡ map (λ (m : ℕ). shown m (host_by run.hosts m)) (take n run.listed)

-- "its host, itself where it is its own"
pub record HostShown (noted : List ℕ) (m : ℕ) : Type 0 where
  pub own : get_or noted m missing ≡ missing → host_by noted m ≡ m
  pub other : (get_or noted m missing ≡ missing → ⊥) → host_by noted m ≡ get_or noted m missing

unfoldable pub HostsAreShown : Type 0
HostsAreShown = (noted : List ℕ) (m : ℕ) → HostShown noted m

-- "'Done' comes exactly when none is left, so after at most as many steps as there are modules"
pub record DoneAt (p : Project) (plan : List ℕ) (root n : ℕ) : Type 0 where
  pub only : step_of p plan root n ≡ None → length (planned_run p plan root).listed ≤ n
  pub then : length (planned_run p plan root).listed ≤ n → step_of p plan root n ≡ None
  pub few : length (planned_run p plan root).listed ≤ modules p

unfoldable pub DoneExactlyWhenNoneIsLeft : Type 0
DoneExactlyWhenNoneIsLeft = (p : Project) (plan : List ℕ) (root n : ℕ) → DoneAt p plan root n

-- "With the empty plan the run equals the entry's actual order as it stands", and its hosts
pub record Unplanned (p : Project) (root : ℕ) : Type 0 where
  pub listed : step_modules p (replicate (modules p) 0) root ≡ actual_of p root
  pub hosts : step_hosts p (replicate (modules p) 0) root ≡ map (host_by (hosts_of p root)) (actual_of p root)
  pub steps : (n : ℕ) → step_of p (replicate (modules p) 0) root n ≡ step_at (hosts_of p root) (actual_of p root) n

unfoldable pub EmptyPlanRunsTheActualOrder : Type 0
EmptyPlanRunsTheActualOrder = (p : Project) (root : ℕ) → Unplanned p root

-- an accepted call of a step answers it
unfoldable pub StepCallAnswersTheStep : Type 0
StepCallAnswersTheStep =
    (t : Lent) (root : ℕ) (plan : List ℕ) (n : ℕ) → t.refused ≡ None → is_analysed t.project root ≡ true → plan_fits (modules t.project) plan ≡ true
    → load_step t root plan n ≡ Ok (step_of t.project plan root n)

-- an accepted whole run holds each step at its place, and as many as there are
pub record HoldsSteps (p : Project) (plan : List ℕ) (root count : ℕ) (steps hosts : List ℕ) : Type 0 where
  pub there : (n : ℕ) → n < count → step_of p plan root n ≡ shown (get_or steps n 0) (get_or hosts n 0)
  pub past : (n : ℕ) → count ≤ n → step_of p plan root n ≡ None

unfoldable pub WholeRunHoldsTheSteps : Type 0
WholeRunHoldsTheSteps =
    (t : Lent) (root : ℕ) (plan steps hosts : List ℕ) (count : ℕ) (steps' hosts' : List ℕ)
    → LoadRun t root plan steps hosts (Ok count) steps' hosts' → HoldsSteps t.project plan root count steps' hosts'

-- in a plain project the sensitive modules among the steps with the whole analysis' plan are the expected sensitive order
unfoldable pub PlannedStepsKeepTheOrder : Type 0
PlannedStepsKeepTheOrder =
    (p : Project) (root : ℕ) → refusal p ≡ None → Plain p → is_analysed p root ≡ true
    → keep (sensitive p) (step_modules p (whole_plan p) root) ≡ expected_sensitive_of p root
