-- The two counts of a share.
-- Assumes nothing.
use Rattle.std.specs.Prelude.{ℕ}
use Rattle.lists.specs.Words.{ones}
use Rattle.tables.specs.Project.{Project}
use Rattle.eligibility.specs.Eligible.{eligible_marks}
use Rattle.order_analysis.specs.Promise.{whole_plan}

-- "eligible e"
unfoldable pub eligible_count : Project → ℕ
eligible_count p = ones (eligible_marks p)

-- "planned p by the whole analysis"
unfoldable pub planned_count : Project → ℕ
planned_count p = ones (whole_plan p)
