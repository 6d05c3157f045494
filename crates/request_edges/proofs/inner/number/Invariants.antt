-- The places below i are written.
-- Assumes nothing.
use Rattle.std.proofs.Common.{ℕ, length}
use Rattle.marks.proofs.Steps.{Writing}
use Rattle.request_edges.proofs.inner.number.Given as goal

abbrev pub invariant-loop-i : goal.invariant-loop-i
invariant-loop-i l = Writing (λ (j : ℕ). j) (length l.initial.out) l.i l.out
