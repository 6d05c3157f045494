-- `plan_check::check_plan`: the tests in their order, and then what is said of the plan.
-- Assumes nothing.
use Rattle.std.proofs.Common.{sym, ◌∙◌}
use Rattle.seeds.proofs.Fits.{fits_below}
use Rattle.plan_check.proofs.Promise.{plan-marked}
use Rattle.plan_check.proofs.check_plan.Goals as goal

pub judge_plan-judgement-requires : goal.judge_plan-judgement-requires
judge_plan-judgement-requires c =
    let count = c.modules-n.ensures.count in
    let fits = rw count at (sym c.seeds_fit.ensures ∙ c.if-not-seeds_fit.false) in
    let form = rw count at (sym c.plan_fits.ensures ∙ c.if-not-plan_fits.false) in
    record { plan = record { inside = fits_below _ _ fits; marked = plan-marked _ _ form } }
