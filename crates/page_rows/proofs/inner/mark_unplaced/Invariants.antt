use Rattle.lists.proofs.Passes.{Passed}
use Rattle.page_rows.specs.inner.Steps.{unplaced}
use Rattle.page_rows.proofs.inner.mark_unplaced.Given as goal

abbrev pub invariant-loop-m : goal.invariant-loop-m
invariant-loop-m l = Passed (unplaced l.places) l.fn.marks l.m l.marks
