-- `module_visits::inner::execute_members` meets its contract. What is known between the executions is `MemberVisits`.
-- Assumes nothing.
use Rattle.module_visits.proofs.MemberVisits.{between_start, between_other, call_fits, between_more, ended}
use Rattle.module_visits.proofs.inner.execute_members.Goals as goal

pub loop-m-init : goal.loop-m-init
loop-m-init c = between_start c.requires

pub loop-m-preserved-then-ways-m : goal.loop-m-preserved-then-ways-m
loop-m-preserved-then-ways-m c = between_other c.requires c.loop-m.invariant c.loop-m-test.true c.if-ways-m.true

pub execute_actual_module-requires : goal.execute_actual_module-requires
execute_actual_module-requires c = call_fits c.requires c.loop-m.invariant c.loop-m-test.true

pub loop-m-preserved : goal.loop-m-preserved
loop-m-preserved c = between_more c.requires c.loop-m.invariant c.loop-m-test.true c.if-ways-m.false c.execute_actual_module.ensures

pub returns : goal.returns
returns c = ended c.requires c.loop-m.invariant c.loop-m-test.false
