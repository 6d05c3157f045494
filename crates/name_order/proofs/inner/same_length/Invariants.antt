-- The runs so far are the same, and what is left of both lines goes as the lines do.
-- Assumes nothing.
use Rattle.std.proofs.Common.{◌≡◌, ◌*◌, ◌≤◌, length}
use Rattle.name_order.specs.Sooner.{sooner}
use Rattle.name_order.specs.inner.Lines.{first_line, line_at}
use Rattle.name_order.proofs.inner.same_length.Given as goal

abbrev pub invariant-loop-x : goal.invariant-loop-x
invariant-loop-x l = record {
  runs : l.same ≡ length l.yielded * 8;
  within : (l.same ≤ length l.text) × (l.same ≤ length l.other);
  left : sooner (line_at l.text l.same) (line_at l.other l.same) ≡ sooner (first_line l.text) (first_line l.other);
}
