-- What the operations promise of a call that is accepted.
-- Assumes nothing.
use Rattle.std.specs.Prelude.{◌≡◌, ℕ, Bool, true, cond, List, Option, None, Some, Ok}
use Rattle.tables.specs.Project.{Project}
use Rattle.tables.specs.Readings.{modules, is_analysed}
use Rattle.tables.specs.declared.Refusal.TheVariants.{ShortSlice}
use Rattle.tables.proofs.Answering.{answer-accepted}
use Rattle.table.specs.Table.{Lent}
use Rattle.plan_conditions.specs.Form.{plan_fits}
use Rattle.planned_load.specs.declared.LoadStep.{LoadStep}
use Rattle.planned_load.specs.Steps.{step_of}
use Rattle.load_trial.specs.Promise.{trial_verdict, load_step}

module _ (t : Lent) (root : ℕ) (plan : List ℕ) where
  abbrev p : Project
  p = t.project

  module _ (accepts : t.refused ≡ None) (analysed : is_analysed p root ≡ true) (fits : plan_fits (modules p) plan ≡ true) where
    entered : (room : Bool) → trial_verdict t root plan room ≡ cond room None (Some ShortSlice)
    entered room = rw (accepts, analysed, fits)

    pub step-shown : (number : ℕ) {step : Option LoadStep} → step ≡ step_of p plan root number → Ok step ≡ load_step t root plan number
    unfolding load_step
    step-shown number h = answer-accepted (entered true) h
