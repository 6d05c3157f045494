-- The steps on document 01's listing, computed.
-- Assumes nothing.
use mathlib.Core.Path.{refl}
use Rattle.marked_cases.proofs.Computing.{computing}
use Rattle.planned_load.specs.Steps.{planned_run, step_of, step_modules, step_hosts}
use Rattle.trial_promises.specs.Witnesses.{TrialWitness}

pub trial_witness : TrialWitness
unfolding computing planned_run step_of step_modules step_hosts
trial_witness = record { plan = refl; modules = refl; hosts = refl; step = refl; done = refl; unplanned = refl }
