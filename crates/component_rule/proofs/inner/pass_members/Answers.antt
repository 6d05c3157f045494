-- `pass_members`: rule (ii) over the columns of an accepted project.
-- Assumes nothing.
use Rattle.component_rule.proofs.OfProject.{members-fit, component-pass}
use Rattle.component_rule.proofs.inner.pass_members.Goals as goal

pub close_cyclic_chunk_members-requires : goal.close_cyclic_chunk_members-requires
close_cyclic_chunk_members-requires c =
    let p = c.args.labelled.now in
    let labelled = rw c.labelled.view_is at c.labelled.invariant in
    let sets = rw c.labelled.view_is at c.labelled.inside.sets.sets in
    rw (c.columns-columns.ensures.same, c.labelled.view_is, labelled.label, sets.sensitive_set, sets.eligible_set, c.requires.size) (members-fit p labelled.accepted)

pub returns : goal.returns
returns c =
    let p = c.args.labelled.now in
    let labelled = rw c.labelled.view_is at c.labelled.invariant in
    let sets = rw c.labelled.view_is at c.labelled.inside.sets.sets in
    component-pass p labelled.accepted c.args.plan.now (rw (c.columns-columns.ensures.same, c.labelled.view_is, labelled.label, sets.sensitive_set, sets.eligible_set) at c.close_cyclic_chunk_members.ensures)
