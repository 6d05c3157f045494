-- What leads to the plan, the importers of that, the dependents of the plan, and what is in both and a candidate.
-- Assumes nothing.
use Rattle.std.proofs.Common.{sym, ◌∙◌}
use Rattle.current_columns.specs.AsProject.{project}
use Rattle.import_rule.proofs.Marking.{importers_added}
use Rattle.import_rule.proofs.inner.close_static_importers.Goals as goal

pub returns-clause-plan : goal.returns-clause-plan
unfolding project
returns-clause-plan c =
    let r = rw (← c.columns.view_is) at c.requires in
    let n = c.places-n.ensures.count ∙ sym r.leads.size in
    rw (← c.columns.view_is)
    (importers_added 4096 r.leads.few (sym c.places-n.ensures.lengths) r.columns.dependencies (rw (c.to.ensures, c.from.ensures, n) at c.mark_owners.ensures) (rw n at c.mark_owners-2.ensures) c.add.ensures)
