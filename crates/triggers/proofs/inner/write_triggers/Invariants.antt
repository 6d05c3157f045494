-- What the rows so far trigger is written.
-- Assumes nothing.
use Rattle.std.proofs.Common.{◌≡◌, ℕ, ◌<◌, get_or}
use Rattle.triggers.specs.inner.Columns.{row_trigger}
use Rattle.triggers.proofs.inner.write_triggers.Given as goal

abbrev pub invariant-loop-row : goal.invariant-loop-row
invariant-loop-row l = (k : ℕ) → k < l.row → get_or l.triggers k 0 ≡ row_trigger l.columns.normal l.columns.included l.wraps l.columns.record_kind l.columns.record_target k
