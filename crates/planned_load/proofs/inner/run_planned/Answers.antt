-- `run_planned`: the hosts are noted in a local array, and those of the listed modules written.
use Rattle.std.proofs.Common.{refl, ◌∙◌, arith}
use lib.Seq.{length-take-le}
use Rattle.planned_load.proofs.Stepping.{room-length, held-room, held-few, held_below, hosts-written}
use Rattle.planned_load.proofs.inner.run_planned.Goals as goal

pub name_hosts-requires-clause-inside : goal.name_hosts-requires-clause-inside
name_hosts-requires-clause-inside c =
    let w = c.list_planned-count in
    held_below c.args.entry.now.current.now c.args.plan.now c.args.entry.now.root w.ensures _ (w.auto.noted ∙ room-length c.modules-modules.ensures.few ∙ c.modules-modules.ensures.count)

pub name_hosts-requires-clause-room : goal.name_hosts-requires-clause-room
name_hosts-requires-clause-room c =
    let w = c.list_planned-count in
    let a = c.args in
    omega (arith, length-take-le w.result w.new.order (held-room a.entry.now.current.now a.plan.now a.entry.now.root w.ensures), held-few a.entry.now.current.now a.plan.now a.entry.now.root w.ensures)

pub returns : goal.returns
returns c = hosts-written c.args.entry.now.current.now c.args.plan.now c.args.entry.now.root c.list_planned-count.ensures refl c.name_hosts.ensures
