use Rattle.std.proofs.Common.{◌+◌, ◌*◌, refl}
use Rattle.listing.proofs.Stripes.{stripe-more, stripe-none}
use Rattle.listing.proofs.columns.copy_column.Goals as goal

pub loop-r-init : goal.loop-r-init
loop-r-init c = stripe-none c.args.columns.now c.args.to c.args.w c.args.first c.args.rows.now

pub loop-r-preserved : goal.loop-r-preserved
loop-r-preserved c =
    let a = c.args in
    let l = c.loop-r in
    stripe-more a.columns.now a.to a.w a.first l.r a.rows.now l.columns (a.first + l.r * a.w) refl l.invariant
