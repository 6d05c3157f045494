-- `page_text::inner::put_text`: the places and the others are laid out in local arrays.
-- Assumes nothing.
use Rattle.std.proofs.Common.{rules, length, ap, arith}
use Rattle.lines.proofs.Puts.{put_as}
use Rattle.lines.proofs.Written.{ended}
use Rattle.page_text.proofs.Laying.{fresh-zeros, laid-ready}
use Rattle.page_text.proofs.inner.put_text.Goals as goal

pub lay_out-count-requires-clause-zeroed : goal.lay_out-count-requires-clause-zeroed
lay_out-count-requires-clause-zeroed c =
    let z = fresh-zeros (length c.args.plan.now) c.requires.orders.few in
    (z, z)

pub invariant_of-sheet : goal.invariant_of-sheet
invariant_of-sheet c =
    let w = c.lay_out-count in
    let r = laid-ready c.args.plan.now c.requires.orders w.auto.expected_places w.auto.actual_places w.ensures in
    (r.sheet, r.rows.0, r.rows.1)

pub put-requires : goal.put-requires
put-requires c =
    let w = c.lay_out-count in
    let r = laid-ready c.args.plan.now c.requires.orders w.auto.expected_places w.auto.actual_places w.ensures in
    omega (arith, r.room c.args.number (length c.args.out.now) c.requires.room, c.new-page.ensures.start.0, ap length c.new-page.ensures.start.1)

pub returns : goal.returns
returns c =
    let w = c.lay_out-count in
    let r = laid-ready c.args.plan.now c.requires.orders w.auto.expected_places w.auto.actual_places w.ensures in
    put_as (r.text c.args.number) (ended c.new-page.ensures.start c.put.ensures c.len.ensures (search rules))
