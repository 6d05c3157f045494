-- `cycle_risk::inner::add_marked_cycle_risk`: the cycle risk of the entry's expected order and chunk.
-- Assumes nothing.
use Rattle.at_risk.proofs.Listed.{expected-placed}
use Rattle.cycle_risk.proofs.inner.add_marked_cycle_risk.Goals as goal

pub add_entry_cycle_risk-requires-clause-placed : goal.add_entry_cycle_risk-requires-clause-placed
add_entry_cycle_risk-requires-clause-placed c = expected-placed _ c.find_expected-expected.ensures.few c.args.entry.now.root c.find_expected-expected.ensures.order c.requires.places

pub returns : goal.returns
returns c = rw c.args.entry.now.entry.from at (rw c.find_expected-expected.ensures.order at c.add_entry_cycle_risk.ensures)
