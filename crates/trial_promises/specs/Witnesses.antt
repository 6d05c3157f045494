-- The steps on document 01's listing, with the whole analysis' plan and with the empty one: the statements say something.
-- Assumes nothing.
use Rattle.std.specs.Prelude.{◌≡◌, [], ◌∷◌, None}
use Rattle.order_analysis.specs.Promise.{whole_plan}
use Rattle.marked_cases.specs.Listing.{listing}
use Rattle.planned_load.specs.Steps.{step_of, step_modules, step_hosts}
use Rattle.trial_promises.specs.Tried.{shown}

-- the whole analysis plans 1 and 3: 2 runs before 3 and 1, which run last under the entry
pub record TrialWitness : Type 0 where
  pub plan : whole_plan listing ≡ 0 ∷ 1 ∷ 0 ∷ 1 ∷ []
  pub modules : step_modules listing (0 ∷ 1 ∷ 0 ∷ 1 ∷ []) 1 ≡ 0 ∷ 2 ∷ 3 ∷ 1 ∷ []
  pub hosts : step_hosts listing (0 ∷ 1 ∷ 0 ∷ 1 ∷ []) 1 ≡ 0 ∷ 2 ∷ 1 ∷ 1 ∷ []
  pub step : step_of listing (0 ∷ 1 ∷ 0 ∷ 1 ∷ []) 1 2 ≡ shown 3 1
  pub done : step_of listing (0 ∷ 1 ∷ 0 ∷ 1 ∷ []) 1 4 ≡ None
  pub unplanned : step_modules listing (0 ∷ 0 ∷ 0 ∷ 0 ∷ []) 1 ≡ 0 ∷ 3 ∷ 2 ∷ 1 ∷ []
