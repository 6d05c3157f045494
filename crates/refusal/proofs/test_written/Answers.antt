-- `test_written`: a table that nothing refuses is accepted as it is written.
use Rattle.table.proofs.Lending.{written-accepted}
use Rattle.refusal.proofs.test_written.Goals as goal

pub written_table-requires : goal.written_table-requires
written_table-requires c = written-accepted c.args.table.now c.in-Ok.ensures
