use Rattle.listing.proofs.Stripes.{spread-more, spread_end}
use Rattle.listing.proofs.columns.spread_list.Goals as goal

pub loop-k-preserved : goal.loop-k-preserved
loop-k-preserved c = spread-more c.loop-k.invariant c.copy_column.new.columns c.loop-k-test.true c.copy_column.ensures

pub returns-clause-columns_after : goal.returns-clause-columns_after
returns-clause-columns_after c = (spread_end c.loop-k.invariant c.loop-k-test.false).1

pub returns-clause-bounds_after : goal.returns-clause-bounds_after
returns-clause-bounds_after c = (spread_end c.loop-k.invariant c.loop-k-test.false).2
