-- `visit_entries`: the list has room for what is not met.
-- Assumes nothing.
use Rattle.std.proofs.Common.{arith}
use Rattle.entries_order.proofs.Turns.{room-left}
use Rattle.entries_order.proofs.inner.visit_entries.Goals as goal

pub visit-count-requires-clause-room : goal.visit-count-requires-clause-room
visit-count-requires-clause-room c = omega (arith, room-left _ _ _ _ _ c.loop-e.invariant)
