-- `plan_seeds`: the eligible seeds are marked, and the plan is closed.
use Rattle.std.proofs.Common.{ap, ◌∙◌}
use Rattle.lists.specs.Words.{ones}
use Rattle.lists.proofs.Laws.{length-marks_of}
use Rattle.tables.specs.Readings.{modules}
use Rattle.eligibility.specs.Eligible.{eligible}
use Rattle.wrap_plan.proofs.Seeding.{seeds-marked, seeds-planned}
use Rattle.wrap_plan.proofs.inner.plan_seeds.Goals as goal

pub mark_seeds-requires : goal.mark_seeds-requires
mark_seeds-requires c =
    let p = c.args.current.now in
    let k = rw (c.labelled.view_is, c.read_labels-labelled.ensures) at c.labelled.inside.sets.sets.eligible_set in
    record { modules = rw (k, c.fill.auto.slots, c.requires.seeds.size) (length-marks_of (eligible p) (modules p)); seeds = rw c.fill.auto.slots c.requires.seeds.inside }

pub build_order_wrap_plan-requires : goal.build_order_wrap_plan-requires
build_order_wrap_plan-requires c =
    let k = rw (c.labelled.view_is, c.read_labels-labelled.ensures) at c.labelled.inside.sets.sets.eligible_set in
    rw c.read_labels-labelled.ensures (seeds-marked c.args.current.now k c.requires.seeds.size c.fill.ensures c.mark_seeds.ensures)

pub returns : goal.returns
returns c =
    let k = rw (c.labelled.view_is, c.read_labels-labelled.ensures) at c.labelled.inside.sets.sets.eligible_set in
    let plan = seeds-planned c.args.current.now k c.requires.seeds.size c.fill.ensures c.mark_seeds.ensures (rw c.read_labels-labelled.ensures at c.build_order_wrap_plan.ensures) in
    record { plan = plan; count = c.count_marked.ensures ∙ ap ones plan }
