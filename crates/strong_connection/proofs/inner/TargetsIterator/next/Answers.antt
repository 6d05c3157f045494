-- `Targets::next`: the rows that are left after the first are rows too.
use Rattle.strong_connection.proofs.Rows.{below-rest}
use Rattle.strong_connection.proofs.inner.TargetsIterator.next.Goals as goal

pub invariant_of-self-2 : goal.invariant_of-self-2
invariant_of-self-2 c = below-rest c.in_ok-row.ensures.steps c.self.invariant
