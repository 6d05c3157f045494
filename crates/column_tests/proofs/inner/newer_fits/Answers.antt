-- One more row is looked at.
use Rattle.std.proofs.Common.{arith}
use Rattle.tables.specs.Refusal.{fits_at}
use Rattle.column_tests.proofs.Every.{count-joined}
use Rattle.column_tests.proofs.inner.newer_fits.Goals as goal

pub loop-i-preserved : goal.loop-i-preserved
loop-i-preserved c = count-joined (fits_at c.args.newer.now) _ _ _ _ c.loop-i.invariant (omega arith)
