-- `order_risk_marks::inner::mark_order_risk`: the order risk alone, from no mark.
-- Assumes nothing.
use Rattle.std.proofs.Common.{length}
use Rattle.at_risk.proofs.Joined.{order-risk-alone}
use Rattle.order_risk_marks.proofs.inner.mark_order_risk.Goals as goal

pub returns : goal.returns
returns c = record { same = cc (order-risk-alone c.args.entry.now.current.now c.args.entry.now.root (length c.args.out.now) c.requires.places); marked = c.count_marked.ensures }
