-- `list_planned`: the visits of the columns that are made.
use Rattle.entry_run.specs.Actual.{read_as_two}
use Rattle.planned_load.specs.Steps.{planned_run}
use Rattle.planned_load.proofs.inner.list_planned.Goals as goal

pub list_prepared-requires : goal.list_prepared-requires
list_prepared-requires c = record { prepared = (read_as_two c.args.plan.now c.args.entry.now.current.now.wrap, c.prepare_planned-columns.ensures); places = c.requires.places }

pub returns : goal.returns
unfolding planned_run
returns c = c.list_prepared.ensures (read_as_two c.args.plan.now c.args.entry.now.current.now.wrap) c.prepare_planned-columns.ensures
