-- What is counted and what is left are all.
use Rattle.std.proofs.Common.{◌≡◌, ◌+◌, ◌≤◌, drop}
use Rattle.names.specs.Names.{line_ends}
use Rattle.names.proofs.inner.count_lines.Given as goal

abbrev pub invariant-loop-b : goal.invariant-loop-b
invariant-loop-b l = (l.lines ≤ l.b-index) × (l.lines + line_ends (drop l.b-index l.names) ≡ line_ends l.names)
