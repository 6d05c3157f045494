-- The places below m are written.
-- Assumes nothing.
use Rattle.std.proofs.Common.{ℕ, length, get_or}
use Rattle.marks.proofs.Steps.{Writing}
use Rattle.request_edges.specs.inner.Edges.{choice}
use Rattle.request_edges.proofs.inner.number_chosen.Given as goal

abbrev pub invariant-loop-m : goal.invariant-loop-m
invariant-loop-m l = Writing (λ (j : ℕ). choice (get_or l.first j 0) (get_or l.second j 0) j) (length l.first) l.m l.out
