use Rattle.std.proofs.Common.{refl, set}
use Rattle.listing.proofs.Cuts.{cutting, cut-end, cut_up, cut-wide, cut-room, cut-more}
use Rattle.listing.proofs.columns.spread.Goals as goal

pub loop-l-init : goal.loop-l-init
loop-l-init c = cutting c.args.rows.now c.args.ends.now c.args.columns.now (set c.args.bounds.now 0 0) c.requires

pub overflow_sub-end : goal.overflow_sub-end
overflow_sub-end c = cut_up c.loop-l.invariant c.loop-l-test.true c.told-ends c.width-w.ensures refl

pub spread_list-to-requires : goal.spread_list-to-requires
spread_list-to-requires c =
    let g = c.loop-l.invariant in
    let r = cut-room g c.loop-l-test.true c.told-ends c.width-w.ensures refl in
    let w = cut-wide g c.loop-l-test.true c.told-ends c.width-w.ensures refl in
    (r.0, r.1, w.1, w.2)

pub loop-l-preserved : goal.loop-l-preserved
loop-l-preserved c =
    let r = c.spread_list-to in
    cut-more c.loop-l.invariant c.loop-l-test.true c.told-ends c.width-w.ensures refl r.new.columns r.new.bounds r.result r.ensures.value r.ensures.columns_after r.ensures.bounds_after

pub returns-clause-columns_after : goal.returns-clause-columns_after
returns-clause-columns_after c = (cut-end c.loop-l.invariant c.loop-l-test.false).0

pub returns-clause-bounds_after : goal.returns-clause-bounds_after
returns-clause-bounds_after c = (cut-end c.loop-l.invariant c.loop-l-test.false).1
