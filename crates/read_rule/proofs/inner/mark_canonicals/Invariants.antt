-- The symbols below y have the greater of their two marks.
-- Assumes nothing.
use Rattle.read_rule.proofs.Marking.{Joined}
use Rattle.read_rule.proofs.inner.mark_canonicals.Given as goal

abbrev pub invariant-loop-y : goal.invariant-loop-y
invariant-loop-y l = Joined l.columns.canonical l.chains l.y l.symbols
