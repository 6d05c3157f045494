-- The numbers given are at most as many as the chunks.
-- Assumes nothing.
use Rattle.std.proofs.Common.{◌+◌, ◌≤◌}
use Rattle.lists.specs.Words.{zeros}
use Rattle.tables.specs.Refusal.{chunk_limit}
use Rattle.component_labels.proofs.inner.number_all.Given as goal

abbrev pub invariant-loop-c : goal.invariant-loop-c
invariant-loop-c l = l.last + zeros l.numbers ≤ chunk_limit
