-- `marked_actual`: the members of an order that are marked are an order.
-- Assumes nothing.
use Rattle.std.proofs.Common.{◌≡◌, ◌≤◌, length, take, arith}
use Rattle.lists.specs.Words.{keep, has}
use Rattle.tables.specs.Readings.{modules}
use Rattle.entry_run.specs.Actual.{actual_of}
use Rattle.at_risk.proofs.Listed.{actual-order, written-is}
use Rattle.entry_pages.proofs.Orders.{keep-order, keep-fits, order-members, held-is}
use Rattle.entry_pages.proofs.inner.marked_actual.Goals as goal

pub keep_marked-count-requires-clause-members : goal.keep_marked-count-requires-clause-members
unfolding actual_of
keep_marked-count-requires-clause-members c =
    let listed : take c.prepare_and_list-listed.result c.prepare_and_list-listed.new.order ≡ actual_of c.args.entry.now.current.now c.args.entry.now.root = written-is c.prepare_and_list-listed.ensures.listed in
    rw (listed, c.requires.marks) (order-members _ _ (actual-order c.args.entry.now.current.now c.modules.ensures.accepted.sizes.normal c.args.entry.now.root))

pub keep_marked-count-requires-clause-room : goal.keep_marked-count-requires-clause-room
unfolding actual_of
keep_marked-count-requires-clause-room c =
    let p = c.args.entry.now.current.now in
    let few = c.modules.ensures.accepted.sizes.normal in
    let listed : take c.prepare_and_list-listed.result c.prepare_and_list-listed.new.order ≡ actual_of p c.args.entry.now.root = written-is c.prepare_and_list-listed.ensures.listed in
    let fits : length (keep (has c.args.marks.now) (actual_of p c.args.entry.now.root)) ≤ modules p = keep-fits (has c.args.marks.now) _ _ (actual-order p few c.args.entry.now.root) in
    rw listed (omega (arith, fits, few, c.told-kept))

pub returns : goal.returns
unfolding actual_of
returns c =
    let p = c.args.entry.now.current.now in
    let listed : take c.prepare_and_list-listed.result c.prepare_and_list-listed.new.order ≡ actual_of p c.args.entry.now.root = written-is c.prepare_and_list-listed.ensures.listed in
    let kept = held-is c.keep_marked-count.ensures in
    record {
      list = rw listed at kept;
      order = rw (kept, listed) (keep-order (has c.args.marks.now) _ _ (actual-order p c.modules.ensures.accepted.sizes.normal c.args.entry.now.root));
    }
