-- `component_labels::inner::number_all`: as many places have no number as there are chunks, at most.
-- Assumes nothing.
use native.Mathlib.Omega.{arith}
use Rattle.walk.proofs.Visits.{zeros-le}
use Rattle.component_labels.proofs.inner.number_all.Goals as goal

pub loop-c-init : goal.loop-c-init
loop-c-init c = omega (arith, zeros-le c.args.numbers.now, c.requires.few, c.requires.size)
