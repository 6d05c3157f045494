-- `pass_importers`: over the dependencies of an accepted project.
-- Assumes nothing.
use Rattle.import_rule.proofs.OfProject.{importing-fit, leads-ready, imports-passed}
use Rattle.import_rule.proofs.inner.pass_importers.Goals as goal

pub close_static_importers-requires-clause-columns : goal.close_static_importers-requires-clause-columns
close_static_importers-requires-clause-columns c =
    let p = c.args.reached.now in
    let reached = rw c.reached.view_is at c.reached.invariant in
    rw (c.columns-columns.ensures.same, c.reached.view_is, reached.candidate_set, c.requires.plan.size) (importing-fit p reached.accepted c.requires.edges.graph)

pub close_static_importers-requires-clause-leads : goal.close_static_importers-requires-clause-leads
close_static_importers-requires-clause-leads c =
    let p = c.args.reached.now in
    let reached = rw c.reached.view_is at c.reached.invariant in
    leads-ready p reached.accepted c.requires.edges _ _ c.requires.plan c.requires.leads

pub returns : goal.returns
returns c =
    let p = c.args.reached.now in
    let reached = rw c.reached.view_is at c.reached.invariant in
    imports-passed p reached.accepted c.requires.edges _ _ _ _ c.requires.plan c.close_static_importers.ensures.leads (rw (c.columns-columns.ensures.same, c.reached.view_is, reached.candidate_set) at c.close_static_importers.ensures.plan)
