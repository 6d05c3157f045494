-- One more row is looked at.
use Rattle.std.proofs.Common.{arith}
use Rattle.column_tests.proofs.Every.{own, count-joined}
use Rattle.column_tests.proofs.inner.uses_own.Goals as goal

pub loop-i-preserved : goal.loop-i-preserved
loop-i-preserved c =
    let a = c.args in
    rw (c.value_at.ensures, c.value_at-in-loop-i.ensures, c.value_at-used.ensures)
    (count-joined (own a.statement_module.now a.record_module.now a.use_statement.now a.use_record.now) _ _ _ _ c.loop-i.invariant (omega arith))
