use Rattle.std.proofs.Common.{◌≡◌, ℕ, zero, suc, get_or, nat_eq, refl, arith}
use mir.Val.{bool_byte}
use borrow.Author.Tests.{ne_eqb}
use Rattle.lists.specs.Words.{bit, is_zero}
use Rattle.lists.proofs.Passes.{passed_start, passed-more, passed-end}
use Rattle.page_rows.specs.inner.Steps.{unplaced}
use Rattle.page_rows.proofs.inner.mark_unplaced.Goals as goal

same : (n : ℕ) → bool_byte (nat_eq n 0) ≡ bit (is_zero n)
same zero = refl
same (suc n) = rw (ne_eqb (suc n) 0 (λ q. omega arith)) refl

pub loop-m-init : goal.loop-m-init
loop-m-init c = passed_start (unplaced c.args.places.now) c.args.marks.now

pub returns : goal.returns
returns c = passed-end (unplaced c.args.places.now) c.args.marks.now c.loop-m.m c.loop-m.marks c.loop-m.invariant (omega arith)

pub loop-m-preserved : goal.loop-m-preserved
loop-m-preserved c =
    let l = c.loop-m in
    passed-more (unplaced c.args.places.now) c.args.marks.now l.m l.marks l.invariant _ (same (get_or c.args.places.now l.m 0)) (omega arith)
