-- `marked_expected`: the members of an order that are marked are an order.
-- Assumes nothing.
use Rattle.std.proofs.Common.{◌≤◌, length, arith}
use Rattle.lists.specs.Words.{keep, has}
use Rattle.tables.specs.Readings.{modules}
use Rattle.expected_visit.specs.OfProject.{expected_of}
use Rattle.at_risk.proofs.Listed.{expected-order}
use Rattle.entry_pages.proofs.Orders.{keep-order, keep-fits, order-members, held-is}
use Rattle.entry_pages.proofs.inner.marked_expected.Goals as goal

pub keep_marked-count-requires-clause-members : goal.keep_marked-count-requires-clause-members
keep_marked-count-requires-clause-members c =
    rw (c.find_expected-order.ensures.order, c.requires.marks) (order-members _ _ (expected-order c.args.current.now c.find_expected-order.ensures.few c.args.root))

pub keep_marked-count-requires-clause-room : goal.keep_marked-count-requires-clause-room
keep_marked-count-requires-clause-room c =
    let p = c.args.current.now in
    let few = c.find_expected-order.ensures.few in
    let fits : length (keep (has c.args.marks.now) (expected_of p c.args.root)) ≤ modules p = keep-fits (has c.args.marks.now) _ _ (expected-order p few c.args.root) in
    rw c.find_expected-order.ensures.order (omega (arith, fits, few, c.told-kept))

pub returns : goal.returns
returns c =
    let p = c.args.current.now in
    let kept = held-is c.keep_marked-count.ensures in
    record {
      list = rw c.find_expected-order.ensures.order at kept;
      few = c.find_expected-order.ensures.few;
      order = rw (kept, c.find_expected-order.ensures.order) (keep-order (has c.args.marks.now) _ _ (expected-order p c.find_expected-order.ensures.few c.args.root));
    }
