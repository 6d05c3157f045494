-- `risk_of_orders::inner::place_sensitive` meets its contract.
-- Assumes nothing.
use Rattle.std.proofs.Common.{get_or, refl, arith}
use Rattle.lists.proofs.Laws.{has-not, has-yes}
use Rattle.risk_of_orders.proofs.Places.{placed-start, placed-few, placed-out, placed-in, placed_end}
use Rattle.risk_of_orders.proofs.inner.place_sensitive.Goals as goal

pub loop-m-init : goal.loop-m-init
loop-m-init c = placed-start _ _ _ _ refl c.requires.zeroed

pub loop-m-preserved-then-sensitive-at-eq0 : goal.loop-m-preserved-then-sensitive-at-eq0
loop-m-preserved-then-sensitive-at-eq0 c = placed-out _ _ _ _ _ _ c.loop-m.invariant c.loop-m-test.true (has-not c.args.sensitive.now (get_or c.args.order.now c.loop-m.m-index 0) c.if-sensitive-at-eq0.true)

pub overflow_add-count : goal.overflow_add-count
overflow_add-count c = omega (arith, placed-few _ _ _ _ _ _ c.loop-m.invariant, c.requires.members.few)

pub loop-m-preserved : goal.loop-m-preserved
loop-m-preserved c = placed-in _ _ _ _ _ _ c.loop-m.invariant c.loop-m-test.true c.requires.members.once (c.requires.members.members c.loop-m.m-index c.loop-m-test.true) (has-yes c.args.sensitive.now (get_or c.args.order.now c.loop-m.m-index 0) c.if-sensitive-at-eq0.false)

pub returns : goal.returns
returns c = placed_end _ _ _ _ _ _ c.loop-m.invariant c.loop-m-test.false
