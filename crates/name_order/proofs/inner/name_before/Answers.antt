-- `name_order::inner::name_before`: by the first bytes of both names.
-- Assumes nothing.
use Rattle.std.proofs.Common.{◌≡◌, ℕ, ◌+◌, ◌-◌, nat_lt, List, length, slice_index_or, take, drop, sym, ap, ◌∙◌, arith}
use lib.ListN.{length-drop}
use lib.Seq.{take_all}
use Rattle.names.specs.Names.{start_byte}
use Rattle.name_order.specs.Sooner.{sooner}
use Rattle.name_order.specs.inner.Lines.{first_line}
use Rattle.name_order.proofs.LinesAt.{name-same, name-stop, name-short, name-less, name-more}
use Rattle.name_order.proofs.inner.name_before.Goals as goal

pub returns-then-a-b : goal.returns-then-a-b
returns-then-a-b c = name-same c.args.names.now c.args.a c.args.b c.if-a-b.true

pub returns-then-y-eq10 : goal.returns-then-y-eq10
returns-then-y-eq10 c = name-stop c.args.names.now c.args.a c.args.b (sym c.byte_at-y.ensures ∙ c.if-y-eq10.true)

pub returns-then-x-eq10 : goal.returns-then-x-eq10
returns-then-x-eq10 c = name-short c.args.names.now c.args.a c.args.b (λ e. c.if-y-eq10.false (c.byte_at-y.ensures ∙ e)) (sym c.byte_at-x.ensures ∙ c.if-x-eq10.true)

pub returns-then-first-other : goal.returns-then-first-other
returns-then-first-other c =
    let s = c.args.names.now in
    let x = c.turn-first.ensures ∙ ap start_byte c.byte_at-x.ensures in
    let y = c.turn-other.ensures ∙ ap start_byte c.byte_at-y.ensures in
    ap (λ (v : ℕ). nat_lt v c.turn-other.result) x
    ∙ ap (nat_lt (start_byte (slice_index_or s c.args.a 10))) y
    ∙ name-less s c.args.a c.args.b (λ e. c.if-x-eq10.false (c.byte_at-x.ensures ∙ e)) (λ e. c.if-y-eq10.false (c.byte_at-y.ensures ∙ e)) (λ e. c.if-first-other.true (x ∙ e ∙ sym y))

pub returns : goal.returns
returns c =
    let s = c.args.names.now in
    let x = c.turn-first.ensures ∙ ap start_byte c.byte_at-x.ensures in
    let y = c.turn-other.ensures ∙ ap start_byte c.byte_at-y.ensures in
    let whole : (at : ℕ) → first_line (take (length s - at) (drop at s)) ≡ first_line (drop at s) = λ at. ap first_line (take_all (length s - at) (drop at s) (omega (arith, length-drop at s))) in
    c.rest_before.ensures
    ∙ ap (λ (l : List ℕ). sooner l (first_line (take (length s - (c.args.b + 1)) (drop (c.args.b + 1) s)))) (whole (c.args.a + 1))
    ∙ ap (sooner (first_line (drop (c.args.a + 1) s))) (whole (c.args.b + 1))
    ∙ name-more s c.args.a c.args.b (λ e. c.if-x-eq10.false (c.byte_at-x.ensures ∙ e)) (λ e. c.if-y-eq10.false (c.byte_at-y.ensures ∙ e)) (sym x ∙ c.if-first-other.false ∙ y)
