-- What is counted and what is left are all.
use Rattle.std.proofs.Common.{◌≡◌, ◌+◌, ◌≤◌, drop}
use Rattle.lists.specs.Words.{ones}
use Rattle.lists.proofs.inner.count_marked.Given as goal

abbrev pub invariant-loop-mark : goal.invariant-loop-mark
invariant-loop-mark l = (l.count ≤ l.mark-index) × (l.count + ones (drop l.mark-index l.marks) ≡ ones l.marks)
