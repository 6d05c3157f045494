-- `read_named`: a table that passes the tests isn't refused.
use Rattle.table.proofs.Lending.{none-refused}
use Rattle.arrangement.proofs.inner.read_named.Goals as goal

pub read_arranged-requires : goal.read_arranged-requires
read_arranged-requires c = none-refused c.args.table.now c.in_ok-test.ensures

pub returns : goal.returns
returns c = record { passed = none-refused c.args.table.now c.in_ok-test.ensures; project = c.read_arranged.ensures }
