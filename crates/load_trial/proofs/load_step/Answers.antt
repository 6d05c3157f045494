-- `load_step`: the table that is read and arranged has the entry that was found in it as it is written.
use Rattle.std.proofs.Common.{refl}
use Rattle.table.specs.Table.{read, current}
use Rattle.arrangement.specs.OfProject.{named}
use Rattle.load_trial.proofs.load_step.Goals as goal

pub as_read-entry-requires : goal.as_read-entry-requires
unfolding read current named
as_read-entry-requires c = rw (c.in-Some.ensures.1, c.in_ok-written.ensures.project, c.read_arranged-current.ensures) refl
