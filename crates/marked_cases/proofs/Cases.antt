-- Document 01's marked cases hold, by computation.
-- Assumes nothing.
use mathlib.Core.Path.{refl}
use Rattle.marked_cases.specs.Cases.{marked_cases, replaced_cases, AllHold}
use Rattle.marked_cases.proofs.Computing.{computing}

pub marked_cases_hold : AllHold marked_cases
unfolding AllHold marked_cases computing
marked_cases_hold = refl

pub replaced_cases_hold : AllHold replaced_cases
unfolding AllHold replaced_cases computing
replaced_cases_hold = refl
