use Rattle.std.proofs.Common.{arith}
use Rattle.text_rows.proofs.Names.{name-here}
use Rattle.text_rows.proofs.inner.name_at.Goals as goal

pub overflow_sub-result : goal.overflow_sub-result
overflow_sub-result c = omega (arith, (name-here _ _ _ _ c.requires.0 c.requires.1 c.start.ensures c.start-2.ensures).order)

pub slice_bounds-result-count : goal.slice_bounds-result-count
slice_bounds-result-count c = omega (arith, (name-here _ _ _ _ c.requires.0 c.requires.1 c.start.ensures c.start-2.ensures).order)

pub slice_bounds-result-start : goal.slice_bounds-result-start
slice_bounds-result-start c = omega (arith, (name-here _ _ _ _ c.requires.0 c.requires.1 c.start.ensures c.start-2.ensures).order)

pub slice_bounds-result-end : goal.slice_bounds-result-end
slice_bounds-result-end c = omega (arith, (name-here _ _ _ _ c.requires.0 c.requires.1 c.start.ensures c.start-2.ensures).inside)

pub returns : goal.returns
returns c = (name-here _ _ _ _ c.requires.0 c.requires.1 c.start.ensures c.start-2.ensures).same
