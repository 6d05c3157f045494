-- `build_order_wrap_plan`: closing starts from working sets that hold nothing.
use Rattle.std.proofs.Common.{length, sym, ap, arith, ◌∙◌}
use Rattle.marks.proofs.Parts.{part_length}
use Rattle.reached_modules.proofs.Choosing.{few-roots}
use Rattle.plan_rounds.proofs.Starting.{kept_from}
use Rattle.plan_rounds.proofs.inner.build_order_wrap_plan.Goals as goal

pub slice_bounds-settled-end : goal.slice_bounds-settled-end
slice_bounds-settled-end c = omega (arith, ap length c.rooted.invariant.root, few-roots _ c.rooted.invariant.accepted)

pub slice_bounds-settled-end-2 : goal.slice_bounds-settled-end-2
slice_bounds-settled-end-2 c = sym (part_length 16384 (length c.rooted.inside.roots.now) (omega (arith, ap length c.rooted.invariant.root, few-roots _ c.rooted.invariant.accepted)))

pub close_plan-requires : goal.close_plan-requires
close_plan-requires c =
    let p = c.args.labelled.now in
    let same = c.rooted.view_is ∙ c.sets.invariant.root_sets ∙ c.sets.view_is ∙ c.read_sets-sets.ensures ∙ c.labelled.view_is in
    let rooted = rw same at c.rooted.invariant in
    rw (c.read_sets-sets.ensures, c.labelled.view_is)
    record { kept = kept_from p rooted.accepted c.args.plan.now c.requires (length c.rooted.inside.roots.now) c.modules-n.result (ap length rooted.root) (rw c.labelled.view_is at c.modules-n.ensures.count) }
