-- `circle_rows::inner::lead_rows`: the pass begins, goes on and ends.
-- Assumes nothing.
use Rattle.std.proofs.Common.{◌≤◌, ℕ, List, arith, sym, subst}
use Rattle.lists.proofs.Fronts.{take-zeros}
use Rattle.tables.specs.Readings.{modules, is_static, any_target, row_targets, targets_of}
use Rattle.tables.specs.Refusal.{module_limit}
use Rattle.current_columns.specs.AsProject.{project}
use Rattle.circle_rows.proofs.Rows.{Pass, pass-start, pass-next, pass-end}
use Rattle.circle_rows.proofs.inner.lead_rows.Goals as goal

pub loop-row-init : goal.loop-row-init
unfolding project
loop-row-init c =
    let p = project c.columns.inside in
    let targets = row_targets (is_static p.dynamic) any_target p.normal p.record_kind p.record_target in
    let few : modules p ≤ module_limit = rw (← c.columns.view_is) at c.requires.fit.few in
    rw (← c.columns.view_is)
    (subst (λ (s : List ℕ). Pass p.record_module targets (modules p) 0 s c.args.leads.now) (sym (take-zeros (modules p) module_limit few)) (pass-start p.record_module targets (modules p) c.args.leads.now))

pub loop-row-preserved : goal.loop-row-preserved
loop-row-preserved c = pass-next _ _ _ c.requires.fit.rising c.loop-row.invariant (omega arith) c.lead_once.ensures (omega arith)

pub returns : goal.returns
unfolding targets_of
returns c = pass-end _ _ _ c.loop-row.row (omega arith) (omega arith) c.loop-row.invariant
