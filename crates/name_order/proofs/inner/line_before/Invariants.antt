-- What is left of both lines goes as the lines do.
-- Assumes nothing.
use Rattle.std.proofs.Common.{◌≡◌}
use Rattle.name_order.specs.Sooner.{sooner}
use Rattle.name_order.specs.inner.Lines.{first_line, line_at}
use Rattle.name_order.proofs.inner.line_before.Given as goal

abbrev pub invariant-loop-i : goal.invariant-loop-i
invariant-loop-i l = sooner (line_at l.text l.i) (line_at l.other l.i) ≡ sooner (first_line l.text) (first_line l.other)
