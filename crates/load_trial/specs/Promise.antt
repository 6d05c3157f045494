-- What the operations `load_step` and `load_run` promise.
-- Assumes nothing.
use Rattle.std.specs.Prelude.{◌≡◌, ℕ, Bool, true, cond, ◌&&◌, List, length, nat_le, Option, None, Some, Result}
use Rattle.tables.specs.Readings.{modules, is_analysed}
use Rattle.tables.specs.Answers.{answer, after}
use Rattle.tables.specs.declared.Refusal.{Refusal}
use Rattle.tables.specs.declared.Refusal.TheVariants.{Argument, ShortSlice, PlanForm}
use Rattle.table.specs.Table.{Lent}
use Rattle.plan_conditions.specs.Form.{plan_fits}
use Rattle.planned_load.specs.Steps.{step_of, step_modules, step_hosts}
use Rattle.planned_load.specs.declared.LoadStep.{LoadStep}

-- what refuses a call: what refuses the project, else 5 for a root that is no analysed entry, else 9 for a plan that doesn't fit, else 6 where there is no
-- room
abbrev pub trial_refusal : Option Refusal → Bool → Bool → Bool → Option Refusal
trial_refusal None analysed fits room = cond analysed (cond fits (cond room None (Some ShortSlice)) (Some PlanForm)) (Some Argument)
trial_refusal (Some r) analysed fits room = Some r

-- such a plan "isn't one mark a module or holds a mark other than 0 and 1"
abbrev pub trial_verdict : Lent → ℕ → List ℕ → Bool → Option Refusal
trial_verdict t root plan room = trial_refusal t.refused (is_analysed t.project root) (plan_fits (modules t.project) plan) room

-- "A step is called by its number, from 0, and its answer follows from project, entry, plan and number alone": what refuses the call, else the step
unfoldable pub load_step : Lent → ℕ → List ℕ → ℕ → Result (Option LoadStep) Refusal
load_step t root plan n = answer (trial_verdict t root plan true) (step_of t.project plan root n)

-- what refuses a whole run: 6 for an output shorter than the module count
abbrev pub run_verdict : Lent → ℕ → List ℕ → ℕ → ℕ → Option Refusal
run_verdict t root plan step_room host_room = trial_verdict t root plan (nat_le (modules t.project) step_room && nat_le (modules t.project) host_room)

-- a whole run's answer, and the slices that it leaves: the steps' modules, and their hosts
pub record LoadRun (t : Lent) (root : ℕ) (plan steps hosts : List ℕ) (r : Result ℕ Refusal) (steps' hosts' : List ℕ) : Type 0 where
  pub answered : r ≡ answer (run_verdict t root plan (length steps) (length hosts)) (length (step_modules t.project plan root))
  pub listed : steps' ≡ after (run_verdict t root plan (length steps) (length hosts)) steps (step_modules t.project plan root)
  pub hosted : hosts' ≡ after (run_verdict t root plan (length steps) (length hosts)) hosts (step_hosts t.project plan root)
