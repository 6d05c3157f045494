-- `module_visits::inner::execute_actual_module` meets its contract. What is known between the executions is `ModuleVisits`.
-- Assumes nothing.
use Rattle.std.proofs.Common.{arith, ◌<◌}
use Rattle.lists.specs.Words.{zeros}
use Rattle.module_visits.proofs.ModuleVisits.{passed, between_start, falls, call_fits, between_none, between_more, leave_fits, ended}
use Rattle.module_visits.proofs.inner.+execute_actual_module.Goals as goal

pub returns-in_default : goal.returns-in_default
returns-in_default t c = passed _ _ c.args.host c.requires c.in_default.ensures

pub loop-t-init : goal.loop-t-init
loop-t-init t c = between_start c.args.host c.requires c.in-Some.ensures

pub loop-t-preserved-then-t : goal.loop-t-preserved-then-t
loop-t-preserved-then-t t c = between_none c.args.host c.requires c.in-Some.ensures c.loop-t.invariant c.if-t.true

pub execute_actual_module-requires : goal.execute_actual_module-requires
execute_actual_module-requires t c =
    let h : zeros c.loop-t.marks < zeros c.args.marks.now = falls c.args.host c.requires c.in-Some.ensures c.loop-t.invariant in
    (omega (arith, h, c.decreases), call_fits c.args.host c.requires c.in-Some.ensures c.loop-t.invariant c.loop-t-test.true c.if-t.false)

pub loop-t-preserved : goal.loop-t-preserved
loop-t-preserved t c = between_more c.args.host c.requires c.in-Some.ensures c.loop-t.invariant c.if-t.false c.execute_actual_module.ensures

pub leave_module-requires : goal.leave_module-requires
leave_module-requires t c = leave_fits c.args.host c.requires c.in-Some.ensures c.loop-t.invariant

pub returns : goal.returns
returns t c = ended c.args.host c.requires c.in-Some.ensures c.loop-t.invariant c.loop-t-test.false c.loop-t.auto.t-index-end c.leave_module.ensures
