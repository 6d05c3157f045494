-- `component_labels::inner::label_both`: place by place.
-- Assumes nothing.
use Rattle.std.specs.Prelude.{Bool, ◌&&◌}
use mathlib.Core.Path.{ap}
use native.Mathlib.Omega.{arith}
use lib.Seq.{set-get_or}
use Rattle.lists.specs.Words.{has}
use Rattle.lists.proofs.Laws.{and-join, mark-in, mark-out, and-out}
use Rattle.component_labels.proofs.Labelling.{labelling-start, labelling-pass, labelling-set, labelling-end}
use Rattle.component_labels.proofs.inner.label_both.Goals as goal

pub loop-d-init : goal.loop-d-init
loop-d-init c = labelling-start _ _ _

pub loop-d-preserved-then-ahead-d-eq0 : goal.loop-d-preserved-then-ahead-d-eq0
loop-d-preserved-then-ahead-d-eq0 c = rw set-get_or (labelling-pass _ _ _ _ _ c.loop-d.invariant (ap (λ (b : Bool). b && has c.args.behind.now c.loop-d.d) (mark-out _ c.if-ahead-d-eq0.true)))

pub loop-d-preserved-then-behind-d-eq0 : goal.loop-d-preserved-then-behind-d-eq0
loop-d-preserved-then-behind-d-eq0 c = rw set-get_or (labelling-pass _ _ _ _ _ c.loop-d.invariant (and-out _ _ (mark-out _ c.if-behind-d-eq0.true)))

pub loop-d-preserved : goal.loop-d-preserved
loop-d-preserved c = labelling-set _ _ _ _ _ c.loop-d.invariant (and-join _ _ (mark-in _ c.if-ahead-d-eq0.false) (mark-in _ c.if-behind-d-eq0.false)) (omega arith)

pub returns : goal.returns
returns c = labelling-end _ _ _ _ _ c.loop-d.invariant (omega arith)
