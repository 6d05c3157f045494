-- `read_table`: what is accepted as it is written is accepted as it is read.
use Rattle.std.proofs.Common.{rules}
use Rattle.tables.specs.Accepted.{Accepted}
use Rattle.table.specs.Table.{read, current}
use Rattle.table.specs.Lending.{written}
use Rattle.current_columns.specs.AsProject.{project}
use Rattle.current_columns.proofs.Accepted.{read_accepted}
use Rattle.current_columns.proofs.inner.read_table.Goals as goal

pub invariant_of-result : goal.invariant_of-result
unfolding read current project
invariant_of-result c = let a : Accepted (current (written c.args.table.now)) = read_accepted (written c.args.table.now) c.requires in search rules
