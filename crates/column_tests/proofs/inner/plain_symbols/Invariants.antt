-- The rows looked at and the rows left are all.
use Rattle.std.proofs.Common.{◌≡◌, ◌-◌, ◌&&◌, length}
use Rattle.lists.specs.Words.{every, count_from}
use Rattle.tables.specs.Refusal.{plain_symbols}
use Rattle.column_tests.proofs.Every.{plain}
use Rattle.column_tests.proofs.inner.plain_symbols.Given as goal

abbrev pub invariant-loop-form : goal.invariant-loop-form
invariant-loop-form l =
    (l.fit && every (plain l.reference_form l.reference_symbol) (count_from (length l.yielded) (length l.reference_form - length l.yielded)))
    ≡ plain_symbols l.reference_form l.reference_symbol
