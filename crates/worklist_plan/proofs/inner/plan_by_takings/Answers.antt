-- `worklist_plan::inner::plan_by_takings`: the listed modules, with all taken, are the plan.
-- Assumes nothing.
use Rattle.std.proofs.Common.{ap, ◌∙◌}
use Rattle.lists.specs.Words.{ones}
use Rattle.worklist_run.proofs.Planned.{taken-plan}
use Rattle.worklist_plan.proofs.inner.plan_by_takings.Goals as goal

pub returns : goal.returns
returns c =
    let q = c.mark_listed.ensures ∙ taken-plan _ _ _ _ _ _ c.run_table.ensures in
    record { plan = q; count = c.count_marked.ensures ∙ ap ones q }
