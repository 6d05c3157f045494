use Rattle.std.proofs.Common.{ap, length, arith}
use Rattle.lines.proofs.Printing.{spaced-none, spaced-size, spaced-room, spaced-all}
use Rattle.lines.proofs.lines.room_after.Goals as goal

pub loop-n-init : goal.loop-n-init
loop-n-init c = omega (arith, ap length (spaced-none c.args.numbers.now))

pub returns-then-left-k : goal.returns-then-left-k
returns-then-left-k c = omega (arith, spaced-room c.args.numbers.now c.loop-n.n-index c.loop-n-test.true)

pub loop-n-preserved : goal.loop-n-preserved
loop-n-preserved c = omega (arith, spaced-size c.args.numbers.now c.loop-n.n-index c.loop-n-test.true)

pub returns : goal.returns
returns c = omega (arith, ap length (spaced-all c.args.numbers.now c.loop-n.n-index (omega arith)))
