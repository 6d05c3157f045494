use Rattle.std.proofs.Common.{length, ◌-◌}
use Rattle.text_rows.proofs.Turn.{Going}
use Rattle.text_rows.proofs.inner.read_rows.Given as goal

abbrev pub invariant-loop-v : goal.invariant-loop-v
invariant-loop-v l = Going l.s l.at l.last l.fn.out l.from l.out l.i l.k l.left

abbrev pub decreases-loop-v : goal.decreases-loop-v
decreases-loop-v l = length l.s - l.i
