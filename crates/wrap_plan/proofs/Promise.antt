-- What the plan is, for crates above.
-- Assumes nothing.
use Rattle.std.specs.Prelude.{◌≡◌, ℕ, List, length}
use Rattle.tables.specs.Project.{Project}
use Rattle.tables.specs.Readings.{modules}
use Rattle.chunk_cycles.specs.Cycles.{labels_of}
use Rattle.wrap_rules.specs.Plan.{orders_of}
use Rattle.wrap_plan.specs.Promise.{plan_of}
use Rattle.wrap_rules.proofs.Plans.{plan-length}

-- a plan has a mark for each module
pub length-plan : (p : Project) (seeds : List ℕ) → length (plan_of p seeds) ≡ modules p
unfolding plan_of
length-plan p seeds = plan-length (orders_of p) (labels_of p) p seeds
