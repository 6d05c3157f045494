-- `share_of_table`: no more modules are planned than are eligible.
use Rattle.std.proofs.Common.{ap₂, ◌∙◌, arith}
use Rattle.share_totals.specs.Shares.{share_of}
use Rattle.table_share.specs.Counts.{planned_count}
use Rattle.table_share.proofs.Counts.{planned-eligible, eligible-few}
use Rattle.table_share.proofs.inner.share_of_table.Goals as goal

pub overflow_cast-eligible : goal.overflow_cast-eligible
overflow_cast-eligible c = omega (arith, c.count_eligible-eligible.ensures, eligible-few c.args.current.now c.modules-n.ensures.accepted)

pub overflow_cast-planned : goal.overflow_cast-planned
unfolding planned_count
overflow_cast-planned c =
    let p = c.args.current.now in
    omega (arith, c.analyze-planned.ensures.count, planned-eligible p, eligible-few p c.modules-n.ensures.accepted)

pub share_of-requires : goal.share_of-requires
unfolding planned_count
share_of-requires c = omega (arith, c.count_eligible-eligible.ensures, c.analyze-planned.ensures.count, planned-eligible c.args.current.now)

pub returns : goal.returns
unfolding planned_count
returns c = c.share_of.ensures ∙ ap₂ share_of c.count_eligible-eligible.ensures c.analyze-planned.ensures.count
