-- How long the plan is.
-- Assumes nothing.
use Rattle.std.specs.Prelude.{◌≡◌, length}
use Rattle.tables.specs.Project.{Project}
use Rattle.tables.specs.Readings.{modules}
use Rattle.wrap_plan.proofs.Promise.{length-plan}
use Rattle.order_analysis.specs.Promise.{seeds_of, whole_plan}

-- a plan has a mark for each module
pub length_whole : (p : Project) → length (whole_plan p) ≡ modules p
unfolding whole_plan
length_whole p = length-plan p (seeds_of p)
