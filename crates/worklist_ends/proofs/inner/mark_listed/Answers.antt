-- `worklist_ends::inner::mark_listed`: a listed one's place isn't 0.
use Rattle.std.proofs.Common.{rules, ◌≡◌, ℕ, not, ap, ◌∙◌, arith}
use Rattle.lists.specs.Words.{is_zero, bit, has}
use Rattle.lists.proofs.Passes.{passed-more}
use Rattle.worklist_ends.proofs.Ends.{mark-left}
use Rattle.worklist_ends.proofs.inner.mark_listed.Goals as goal

pub loop-place-preserved : goal.loop-place-preserved
loop-place-preserved c =
    let s = has c.args.placed.now in
    let l = c.loop-place in
    let e : c.from.result ≡ bit (has l.placed l.place-index) = search rules in
    passed-more s _ _ _ l.invariant _ (e ∙ ap (λ (x : ℕ). bit (not (is_zero x))) (mark-left s _ _ _ l.invariant)) (omega arith)
