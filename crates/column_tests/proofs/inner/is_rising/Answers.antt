-- One more pair is compared, and where none is left, at most one row is.
use Rattle.std.proofs.Common.{◌∙◌}
use Rattle.column_tests.proofs.Risen.{rise-joined, rises-joined}
use Rattle.column_tests.proofs.inner.is_rising.Goals as goal

pub loop-pair-preserved : goal.loop-pair-preserved
loop-pair-preserved c =
    let l = c.loop-pair.invariant in
    let s = c.in-Some.ensures.steps in
    let w = rw l.two at s.1 in
    record { two = s.0 ∙ l.two; left = rise-joined _ _ _ _ _ l.left w.0 w.1 w.2 }

pub returns : goal.returns
returns c =
    let l = c.loop-pair.invariant in
    rises-joined _ _ _ l.left (rw l.two at c.in-None.ensures.steps.1.0)
