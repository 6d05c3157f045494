-- `entry_run::inner::list_actual`: the run with the table's own wraps.
-- Assumes nothing.
use Rattle.entry_run.proofs.inner.list_actual.Goals as goal

pub returns : goal.returns
returns c = c.list_prepared.ensures _ c.requires.prepared
