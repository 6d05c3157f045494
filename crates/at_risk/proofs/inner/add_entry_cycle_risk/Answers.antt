-- `at_risk::inner::add_entry_cycle_risk`: the eligible modules of the order, if the chunk reaches a cyclic one.
-- Assumes nothing.
use Rattle.std.proofs.Common.{length, sym, ap, ◌∙◌}
use Rattle.lists.specs.Words.{has}
use Rattle.lists.proofs.Laws.{length-marks_of}
use Rattle.tables.specs.Readings.{modules}
use Rattle.eligibility.specs.Eligible.{eligible}
use Rattle.eligibility.proofs.Eligible.{eligible-marks}
use Rattle.at_risk.proofs.inner.add_entry_cycle_risk.Goals as goal

pub add_cycle_risk-requires-clause-order : goal.add_cycle_risk-requires-clause-order
add_cycle_risk-requires-clause-order c = rw c.requires.placed.size c.requires.placed.order

pub add_cycle_risk-requires-clause-rows : goal.add_cycle_risk-requires-clause-rows
add_cycle_risk-requires-clause-rows c = let p = c.args.current.now in ap length c.requires.eligibles ∙ length-marks_of (eligible p) (modules p) ∙ sym c.requires.placed.size

pub returns : goal.returns
returns c = cc (ap has c.requires.eligibles ∙ eligible-marks c.args.current.now)
