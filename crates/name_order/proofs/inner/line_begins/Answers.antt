-- `name_order::inner::line_begins`: by the next byte of the line and of the word.
-- Assumes nothing.
use Rattle.std.proofs.Common.{◌≡◌, ℕ, ◌+◌, slice_index_or, drop, inl, sym, ap, ◌∙◌, arith}
use native.Mathlib.Nat.{add_assoc}
use Rattle.name_order.specs.Sooner.{begins}
use Rattle.name_order.specs.inner.Lines.{line_at}
use Rattle.name_order.proofs.LinesAt.{line-inside, begins-stop, begins-differ, begins-more, begins-all}
use Rattle.name_order.proofs.inner.line_begins.Goals as goal
use Rattle.name_order.proofs.inner.line_begins.Goals.{then-b-eq10-via-then-b-eq10, then-b-eq10-via-else-b-eq10+then-b-w}

pub returns-then-b-eq10 : goal.returns-then-b-eq10
returns-then-b-eq10 c =
    let i = c.args.at + c.loop-k.k in
    elim c.then-b-eq10.branch [
      | then-b-eq10-via-then-b-eq10 w ↦ begins-stop c.args.names.now c.args.word.now i c.loop-k.k c.loop-k-test.true (sym c.byte_at-b.ensures ∙ w.if-b-eq10.true) ∙ c.loop-k.invariant.left
      | then-b-eq10-via-else-b-eq10+then-b-w w ↦
          begins-differ c.args.names.now c.args.word.now i c.loop-k.k c.loop-k-test.true (λ e. w.if-b-eq10.false (c.byte_at-b.ensures ∙ e)) (λ e. w.if-b-w.true (c.byte_at-b.ensures ∙ e)) ∙ c.loop-k.invariant.left
    ]

pub loop-k-preserved : goal.loop-k-preserved
loop-k-preserved c =
    let s = c.args.names.now in
    let i = c.args.at + c.loop-k.k in
    let n : slice_index_or s i 10 ≡ 10 → ⊥ = λ e. c.if-b-eq10.false (c.byte_at-b.ensures ∙ e) in
    record {
      left = ap (λ (j : ℕ). begins (drop (c.loop-k.k + 1) c.args.word.now) (line_at s j)) (sym (add_assoc c.args.at c.loop-k.k 1))
          ∙ begins-more s c.args.word.now i c.loop-k.k c.loop-k-test.true n (sym c.byte_at-b.ensures ∙ c.if-b-w.false)
          ∙ c.loop-k.invariant.left;
      within = inl (omega (arith, line-inside s i n));
    }

pub returns : goal.returns
returns c = begins-all c.args.names.now c.args.word.now (c.args.at + c.loop-k.k) c.loop-k.k c.loop-k-test.false ∙ c.loop-k.invariant.left
