-- The measure is the number of modules that are not met. What is known between the rows is `Between`.
-- Assumes nothing.
use Rattle.lists.specs.Words.{zeros}
use Rattle.module_visits.proofs.ModuleVisits.{Between}
use Rattle.module_visits.proofs.inner.+execute_actual_module.Given as goal

abbrev pub decreases-execute_actual_module : goal.decreases-execute_actual_module
decreases-execute_actual_module l = zeros l.marks.now

abbrev pub invariant-loop-t : goal.invariant-loop-t
invariant-loop-t l =
    let f = l.fn in
    Between f.starts f.triggers f.m f.host l.initial.marks f.order f.hosts f.traversal l.rows l.t-index l.traversal l.marks l.order l.hosts
