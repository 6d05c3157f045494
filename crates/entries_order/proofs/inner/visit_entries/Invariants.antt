-- The entries met are visited.
-- Assumes nothing.
use Rattle.expected_visit.specs.Visit.{held}
use Rattle.entries_order.proofs.Turns.{Turns}
use Rattle.entries_order.proofs.inner.visit_entries.Given as goal

abbrev pub invariant-loop-e : goal.invariant-loop-e
invariant-loop-e l = Turns l.columns l.entries (held l.initial.marks l.initial.order 0) l.e-index (held l.marks l.order l.count)
