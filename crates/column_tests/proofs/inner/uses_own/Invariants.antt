-- The rows looked at and the rows left are all.
use Rattle.std.proofs.Common.{◌≡◌, ◌-◌, ◌&&◌, length}
use Rattle.lists.specs.Words.{every, count_from}
use Rattle.tables.specs.Refusal.{uses_own}
use Rattle.column_tests.proofs.Every.{own}
use Rattle.column_tests.proofs.inner.uses_own.Given as goal

abbrev pub invariant-loop-i : goal.invariant-loop-i
invariant-loop-i l =
    (l.fit && every (own l.statement_module l.record_module l.use_statement l.use_record) (count_from l.i (length l.use_statement - l.i)))
    ≡ uses_own l.statement_module l.record_module l.use_statement l.use_record
