-- `cycle_risk::inner::mark_cycle_risk`: the cycle risk alone, from no mark.
-- Assumes nothing.
use Rattle.std.proofs.Common.{length}
use Rattle.at_risk.proofs.Joined.{cycle-risk-alone}
use Rattle.cycle_risk.proofs.inner.mark_cycle_risk.Goals as goal

pub returns : goal.returns
returns c = record { same = cc (cycle-risk-alone c.args.entry.now.current.now c.args.entry.now.root (length c.args.out.now) c.requires.places); marked = c.count_marked.ensures }
