-- `prepare_planned`: the wraps are made in a local array.
use Rattle.std.proofs.Common.{arith}
use Rattle.current_columns.specs.AsProject.{project}
use Rattle.planned_load.proofs.Stepping.{room-length}
use Rattle.planned_load.proofs.inner.prepare_planned.Goals as goal

pub read_as_two-requires : goal.read_as_two-requires
unfolding project
read_as_two-requires c =
    let counted = rw (← c.columns-columns.ensures.same, ← c.columns.view_is) at c.modules-modules.ensures.count in
    let accepted = rw (← c.columns-columns.ensures.same, ← c.columns.view_is) at c.columns-columns.ensures.accepted in
    record { plan = omega (arith, room-length c.modules-modules.ensures.few, c.requires.plan, c.modules-modules.ensures.count); wraps = omega (arith, room-length c.modules-modules.ensures.few, counted, accepted.sizes.wrap) }

pub returns : goal.returns
unfolding project
returns c =
    rw (← c.columns-columns.ensures.same, ← c.columns.view_is) (rw (← c.columns-columns.ensures.same, ← c.columns.view_is, c.read_as_two.ensures) at c.prepare_wrapped.ensures)
