-- Accepted calls that meet the premises: document 01's listing, planned from module 2, from C with names and without names with its two records lent as a slice.
-- Assumes nothing.
use Rattle.std.specs.Prelude.{◌≡◌, [], ◌∷◌}
use Rattle.caller_promises.specs.Ways.{marks_in, CPlanCall, from_c, RecordPlanCall, with_record_slices}

-- a call whose slice then has the plan {1, 2, 3}
pub record PlansFromC : Type 0 where
  pub call : CPlanCall (2 ∷ [])
  pub marks : marks_in (from_c.of_plan (2 ∷ []) call) ≡ 0 ∷ 1 ∷ 1 ∷ 1 ∷ []

pub record PlansWithRecords : Type 0 where
  pub call : RecordPlanCall (2 ∷ [])
  pub marks : marks_in (with_record_slices.of_plan (2 ∷ []) call) ≡ 0 ∷ 1 ∷ 1 ∷ 1 ∷ []
