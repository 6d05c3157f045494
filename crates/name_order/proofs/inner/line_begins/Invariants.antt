-- What is left of the line begins with what is left of the word where all does, and what is passed stands in the text.
-- Assumes nothing.
use Rattle.std.proofs.Common.{◌≡◌, ◌+◌, ◌≤◌, ◌⊎◌, length, drop}
use Rattle.name_order.specs.Sooner.{begins}
use Rattle.name_order.specs.inner.Lines.{line_at}
use Rattle.name_order.proofs.inner.line_begins.Given as goal

abbrev pub invariant-loop-k : goal.invariant-loop-k
invariant-loop-k l = record {
  left : begins (drop l.k l.word) (line_at l.names (l.at + l.k)) ≡ begins l.word (line_at l.names l.at);
  within : l.at + l.k ≤ length l.names ⊎ (l.k ≡ 0);
}
