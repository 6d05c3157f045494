-- All members are listed.
-- Assumes nothing.
use Rattle.std.proofs.Common.{arith}
use Rattle.suffix_places.proofs.Lowering.{listed-all}
use Rattle.suffix_places.proofs.inner.is_listed.Goals as goal

pub returns : goal.returns
returns c e = listed-all c.args.order.now c.args.sensitive.now c.args.eligible.now c.args.placed.now (λ i l. c.loop-member.invariant i (omega arith))
