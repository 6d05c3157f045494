-- `read_tested`: a table that nothing refuses is accepted as it is written.
use Rattle.table.proofs.Lending.{written-accepted}
use Rattle.refusal.proofs.read_tested.Goals as goal

pub read_table-requires : goal.read_table-requires
read_table-requires c = written-accepted c.args.table.now c.in_ok-test.ensures
