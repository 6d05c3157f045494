-- `step_planned`: the run is listed in local arrays.
use Rattle.std.proofs.Common.{refl, arith}
use Rattle.planned_load.proofs.Stepping.{room-length, held-done, held-module, held-step}
use Rattle.planned_load.proofs.inner.step_planned.Goals as goal

pub returns-then-count-at : goal.returns-then-count-at
returns-then-count-at c = held-done c.args.entry.now.current.now c.args.plan.now c.args.entry.now.root c.list_planned-count.ensures c.args.number (omega arith)

pub own_host-requires : goal.own_host-requires
own_host-requires c =
    omega (arith, room-length c.modules-modules.ensures.few, c.list_planned-count.auto.noted, c.modules-modules.ensures.count, held-module c.args.entry.now.current.now c.args.plan.now c.args.entry.now.root c.list_planned-count.ensures c.args.number (omega arith))

pub returns : goal.returns
returns c = held-step c.args.entry.now.current.now c.args.plan.now c.args.entry.now.root c.list_planned-count.ensures c.args.number (omega arith) refl c.own_host.ensures
