-- The grounds of the modules so far are written.
-- Assumes nothing.
use Rattle.std.proofs.Common.{◌≡◌, ℕ, ◌<◌, get_or}
use Rattle.sensitivity.specs.Marks.{ground_of}
use Rattle.sensitivity.proofs.inner.mark_sensitive.Given as goal

abbrev pub invariant-loop-m : goal.invariant-loop-m
invariant-loop-m l = (k : ℕ) → k < l.m → get_or l.marks k 0 ≡ ground_of l.fn.columns k
