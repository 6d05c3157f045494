-- `order_risk_marks::inner::add_marked_order_risk`: the order risk of the entry's two orders.
-- Assumes nothing.
use Rattle.at_risk.proofs.Listed.{expected-placed}
use Rattle.order_risk_marks.proofs.inner.add_marked_order_risk.Goals as goal

pub add_entry_order_risk-requires-clause-placed : goal.add_entry_order_risk-requires-clause-placed
add_entry_order_risk-requires-clause-placed c = expected-placed _ c.find_expected-expected.ensures.few c.args.entry.now.root c.find_expected-expected.ensures.order c.requires.places

pub returns : goal.returns
returns c = rw c.find_expected-expected.ensures.order at c.add_entry_order_risk.ensures
