-- `component_labels::inner::first_both`: none of the chunks that were passed is in both.
-- Assumes nothing.
use Rattle.std.specs.Prelude.{◌≡◌, Bool, ◌&&◌, length}
use mathlib.Core.Path.{ap}
use native.Mathlib.Omega.{arith}
use Rattle.lists.specs.Words.{has}
use Rattle.lists.proofs.Laws.{and-join, mark-in, mark-out, and-out}
use Rattle.lists.proofs.Tests.{none_below}
use Rattle.component_labels.specs.inner.Labelling.{in_both}
use Rattle.strong_connection.proofs.Firsts.{first-at, first-none}
use Rattle.component_labels.proofs.inner.first_both.Goals as goal

pub loop-d-preserved-then-mark-eq0 : goal.loop-d-preserved-then-mark-eq0
loop-d-preserved-then-mark-eq0 c = none_below _ c.loop-d.d c.loop-d.invariant (ap (λ (b : Bool). b && has c.args.behind.now c.loop-d.d) (mark-out _ c.if-mark-eq0.true))

pub returns-then-behind-d-ne0 : goal.returns-then-behind-d-ne0
returns-then-behind-d-ne0 c = first-at _ _ c.loop-d.d (omega arith) c.loop-d.invariant (and-join _ _ (mark-in _ c.if-mark-eq0.false) (mark-in _ c.if-behind-d-ne0.true))

pub loop-d-preserved : goal.loop-d-preserved
loop-d-preserved c = none_below _ c.loop-d.d c.loop-d.invariant (and-out _ _ (mark-out _ c.if-behind-d-ne0.false))

pub returns : goal.returns
returns c =
    let n : c.loop-d.d ≡ length c.args.ahead.now = omega arith in
    first-none (in_both c.args.ahead.now c.args.behind.now) _ (rw n at c.loop-d.invariant)
