-- `cycle_risk`: a table that passed the tests is accepted, and as it is read it has the entry that was found in it as it is written.
use Rattle.std.proofs.Common.{refl}
use Rattle.table.specs.Table.{read, current}
use Rattle.cycle_risk.proofs.cycle_risk.Goals as goal

pub read_table-current-requires : goal.read_table-current-requires
read_table-current-requires c = rw c.in_ok-written.ensures.project at c.modules-modules.ensures.accepted

pub as_read-entry-requires : goal.as_read-entry-requires
unfolding read current
as_read-entry-requires c = rw (c.in-Some.ensures.1, c.in_ok-written.ensures.project, c.read_table-current.ensures) refl
