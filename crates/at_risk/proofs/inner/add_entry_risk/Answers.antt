-- `at_risk::inner::add_entry_risk`: the order risk of the two orders, and then the cycle risk.
-- Assumes nothing.
use Rattle.std.proofs.Common.{◌∙◌}
use Rattle.at_risk.proofs.Joined.{risk-joined}
use Rattle.at_risk.proofs.Listed.{expected-placed}
use Rattle.at_risk.proofs.inner.add_entry_risk.Goals as goal

pub add_entry_order_risk-requires-clause-placed : goal.add_entry_order_risk-requires-clause-placed
add_entry_order_risk-requires-clause-placed c = expected-placed _ c.find_expected-expected.ensures.few c.args.entry.now.root c.find_expected-expected.ensures.order c.requires.places

pub add_entry_cycle_risk-requires-clause-eligibles : goal.add_entry_cycle_risk-requires-clause-eligibles
add_entry_cycle_risk-requires-clause-eligibles c =
    rw c.requires.sets at c.args.sets.now.sets.eligible_set

pub add_entry_cycle_risk-requires-clause-placed : goal.add_entry_cycle_risk-requires-clause-placed
add_entry_cycle_risk-requires-clause-placed c = expected-placed _ c.find_expected-expected.ensures.few c.args.entry.now.root c.find_expected-expected.ensures.order (c.add_entry_order_risk.auto.out ∙ c.requires.places)

pub returns : goal.returns
returns c = cc (risk-joined c.args.entry.now.current.now c.args.entry.now.root c.args.out.now c.requires.places)
