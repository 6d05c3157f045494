-- A sensitive member is lowered, and lowers those after it.
-- Assumes nothing.
use Rattle.std.proofs.Common.{get_or, arith}
use mathlib.Core.Path.{sym, ◌∙◌}
use mathlib.Core.Bool.{true≢false}
use Rattle.lists.proofs.Laws.{mark-in, mark-out}
use Rattle.suffix_places.proofs.Lowering.{lowering-pass, lowering-put, lowering-end}
use Rattle.suffix_places.proofs.inner.lower_order.Goals as goal

pub loop-member-preserved-then-sensitive-m-eq0 : goal.loop-member-preserved-then-sensitive-m-eq0
loop-member-preserved-then-sensitive-m-eq0 c =
    lowering-pass _ _ _ _ _ _ _ c.loop-member.invariant (λ s. true≢false (sym s ∙ mark-out (get_or c.args.sensitive.now (get_or c.args.order.now c.loop-member.member-index 0) 0) c.if-sensitive-m-eq0.true))

pub loop-member-preserved : goal.loop-member-preserved
loop-member-preserved c =
    let i = c.loop-member.member-index in
    lowering-put _ _ _ _ _ _ _ c.loop-member.invariant c.requires.small (c.requires.members i (omega arith))
    (mark-in (get_or c.args.sensitive.now (get_or c.args.order.now i 0) 0) c.if-sensitive-m-eq0.false) _ _ c.earlier-least.ensures c.earlier.ensures

pub returns : goal.returns
returns c = lowering-end _ _ _ _ _ _ _ c.loop-member.invariant (omega arith)
