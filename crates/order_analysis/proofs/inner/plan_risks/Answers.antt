-- `plan_risks`: the eligible seed rows are marked beside the risks, and the plan is closed from them.
use Rattle.std.proofs.Common.{length, ap, ◌∙◌}
use Rattle.lists.proofs.Laws.{length-marks_of}
use Rattle.tables.specs.Readings.{modules}
use Rattle.eligibility.specs.Eligible.{eligible}
use Rattle.order_analysis.specs.inner.Analysis.{risks_of}
use Rattle.order_analysis.proofs.Analyses.{whole-marked, whole-planned}
use Rattle.order_analysis.proofs.inner.plan_risks.Goals as goal

pub mark_table_seeds-requires-clause-eligible : goal.mark_table_seeds-requires-clause-eligible
mark_table_seeds-requires-clause-eligible c =
    let p = c.args.labelled.now in
    rw c.labelled.view_is (ap length (rw c.labelled.view_is at c.labelled.inside.sets.sets.eligible_set) ∙ length-marks_of (eligible p) (modules p))

pub mark_table_seeds-requires-clause-plan : goal.mark_table_seeds-requires-clause-plan
mark_table_seeds-requires-clause-plan c =
    let p = c.args.labelled.now in
    rw c.labelled.view_is (ap length c.requires ∙ length-marks_of (risks_of p) (modules p))

pub build_order_wrap_plan-requires : goal.build_order_wrap_plan-requires
build_order_wrap_plan-requires c =
    let k = rw c.labelled.view_is at c.labelled.inside.sets.sets.eligible_set in
    whole-marked c.args.labelled.now k c.requires (rw c.labelled.view_is at c.mark_table_seeds.ensures)

pub returns : goal.returns
returns c =
    let k = rw c.labelled.view_is at c.labelled.inside.sets.sets.eligible_set in
    whole-planned c.args.labelled.now k c.requires (rw c.labelled.view_is at c.mark_table_seeds.ensures) c.build_order_wrap_plan.ensures
