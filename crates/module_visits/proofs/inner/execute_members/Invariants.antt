-- What is known between the executions is `Between`.
-- Assumes nothing.
use Rattle.module_visits.proofs.MemberVisits.{Between}
use Rattle.module_visits.proofs.inner.execute_members.Given as goal

abbrev pub invariant-loop-m : goal.invariant-loop-m
invariant-loop-m l =
    let f = l.fn in
    Between f.ways f.starts f.triggers f.member f.way f.marks f.order f.hosts f.traversal l.m-index l.traversal l.marks l.order l.hosts
