-- `plan_judgement::inner::judge_plan`: each condition is judged on the plan as it is, and the first that is broken is named.
-- Assumes nothing.
use Rattle.std.proofs.Common.{◌∙◌}
use Rattle.plan_conditions.specs.Conditions.{judged}
use Rattle.plan_judgement.proofs.Judging.{eligible-count, wrong-is, seed-is}
use Rattle.plan_judgement.proofs.inner.judge_plan.Goals as goal

pub lowest_lacking-wrong-requires-clause-rows : goal.lowest_lacking-wrong-requires-clause-rows
lowest_lacking-wrong-requires-clause-rows c =
    let marks = rw (c.labelled.view_is, c.read_labels-labelled.ensures) at c.labelled.inside.sets.sets.eligible_set in
    eligible-count _ c.args.seeds.now _ _ marks c.requires.plan.marked.size

pub lacking_seed-seed-requires-clause-modules : goal.lacking_seed-seed-requires-clause-modules
lacking_seed-seed-requires-clause-modules c =
    let marks = rw (c.labelled.view_is, c.read_labels-labelled.ensures) at c.labelled.inside.sets.sets.eligible_set in
    eligible-count _ c.args.seeds.now _ _ marks c.requires.plan.marked.size

pub returns : goal.returns
unfolding judged
returns c =
    let p = c.args.current.now in
    let same = c.read_labels-labelled.ensures in
    let joined = rw (c.sets.view_is, c.read_sets-sets.ensures, same) at c.sets.invariant in
    let size = c.requires.plan.marked.size in
    let marks = rw (c.labelled.view_is, same) at c.labelled.inside.sets.sets.eligible_set in
    let wrong = c.lowest_lacking-wrong.ensures ∙ wrong-is p c.args.seeds.now _ _ marks size in
    let seed = c.lacking_seed-seed.ensures ∙ seed-is p _ c.args.plan.now _ marks size in
    let suffix = rw joined.root_sets at c.lacking_suffix-suffix.ensures in
    let member = rw same at c.lacking_member-member.ensures in
    let importer = rw joined.reached_set at c.lacking_importer-importer.ensures in
    let reader = rw joined.reached_set at c.lacking_reader-reader.ensures in
    c.name_first.ensures ∙ rw (wrong, seed, suffix, member, importer, reader)
