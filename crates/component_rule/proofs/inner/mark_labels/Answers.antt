-- A module's label is marked where the module is planned, if it has a place.
-- Assumes nothing.
use Rattle.std.proofs.Common.{refl, arith}
use mathlib.Core.Path.{sym, ◌∙◌}
use Rattle.marks.proofs.Steps.{looked-at, owners-start, owners-put}
use Rattle.component_rule.proofs.inner.mark_labels.Goals as goal

pub loop-m-init : goal.loop-m-init
loop-m-init c = owners-start _ _ _

pub loop-m-preserved-then-hits-label : goal.loop-m-preserved-then-hits-label
loop-m-preserved-then-hits-label c =
    owners-put _ _ _ _ _ _ c.loop-m.invariant (looked-at _ c.args.labels.now c.args.chunk.now c.loop-m.m 0 (omega arith) ∙ sym c.value_at-label.ensures) refl
    (record { len = refl; there = λ l. absurd (omega arith); other = λ i n. refl })

pub loop-m-preserved : goal.loop-m-preserved
loop-m-preserved c =
    owners-put _ _ _ _ _ _ c.loop-m.invariant (looked-at _ c.args.labels.now c.args.chunk.now c.loop-m.m 0 (omega arith) ∙ sym c.value_at-label.ensures) refl c.raise.ensures
