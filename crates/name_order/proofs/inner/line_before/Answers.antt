-- `name_order::inner::line_before`: by the next byte of both lines.
-- Assumes nothing.
use Rattle.std.proofs.Common.{◌≡◌, ℕ, not, nat_eq, nat_lt, slice_index_or, length, arith, sym, ap, ◌∙◌}
use Rattle.lists.proofs.Laws.{get_d-in}
use Rattle.name_order.proofs.LinesAt.{sooner-stop, sooner-short, sooner-less, sooner-more, sooner-past}
use Rattle.name_order.proofs.inner.line_before.Goals as goal

pub returns-then-y-eq10 : goal.returns-then-y-eq10
returns-then-y-eq10 c = sooner-stop c.args.text.now c.args.other.now c.loop-i.i (sym c.byte_at-y.ensures ∙ c.if-y-eq10.true) ∙ c.loop-i.invariant

pub returns-then-x-eq10 : goal.returns-then-x-eq10
returns-then-x-eq10 c =
    let x = get_d-in c.args.text.now c.loop-i.i 0 10 c.loop-i-test.true in
    sooner-short c.args.text.now c.args.other.now c.loop-i.i (λ e. c.if-y-eq10.false (c.byte_at-y.ensures ∙ e)) (sym x ∙ c.if-x-eq10.true) ∙ c.loop-i.invariant

pub returns-then-x-y : goal.returns-then-x-y
returns-then-x-y c =
    let s = c.args.text.now in
    let x = get_d-in s c.loop-i.i 0 10 c.loop-i-test.true in
    let y = c.byte_at-y.ensures in
    ap (λ (v : ℕ). nat_lt v c.byte_at-y.result) x
    ∙ ap (nat_lt (slice_index_or s c.loop-i.i 10)) y
    ∙ sooner-less s c.args.other.now c.loop-i.i (λ e. c.if-x-eq10.false (x ∙ e)) (λ e. c.if-y-eq10.false (y ∙ e)) (λ e. c.if-x-y.true (x ∙ e ∙ sym y))
    ∙ c.loop-i.invariant

pub loop-i-preserved : goal.loop-i-preserved
loop-i-preserved c =
    let x = get_d-in c.args.text.now c.loop-i.i 0 10 c.loop-i-test.true in
    let y = c.byte_at-y.ensures in
    sooner-more c.args.text.now c.args.other.now c.loop-i.i (λ e. c.if-x-eq10.false (x ∙ e)) (λ e. c.if-y-eq10.false (y ∙ e)) (sym x ∙ c.if-x-y.false ∙ y) ∙ c.loop-i.invariant

pub returns : goal.returns
returns c =
    let s = c.args.text.now in
    let e : length s ≡ c.loop-i.i = omega arith in
    ap (λ (v : ℕ). not (nat_eq v 10)) (c.byte_at.ensures ∙ ap (λ (i : ℕ). slice_index_or c.args.other.now i 10) e)
    ∙ sooner-past s c.args.other.now c.loop-i.i c.loop-i-test.false
    ∙ c.loop-i.invariant
