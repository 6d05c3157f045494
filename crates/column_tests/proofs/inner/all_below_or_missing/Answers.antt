-- Every value is below a bound that is over the largest.
use Rattle.std.proofs.Common.{length, get_or, arith, lt-ltb, le_refl}
use Rattle.lists.proofs.Laws.{or_left}
use Rattle.tables.specs.Refusal.{below_or_missing}
use Rattle.tables.proofs.Scan.{rows_pass}
use Rattle.column_tests.proofs.inner.all_below_or_missing.Goals as goal

pub returns-in_default : goal.returns-in_default
unfolding below_or_missing
returns-in_default c =
    let a = c.args in
    rows_pass _ a.column.now (length a.column.now) (le_refl _) (λ k h. or_left _ _ (lt-ltb (get_or a.column.now k 0) a.n (omega (arith, c.type_inv.column k))))
