-- `expected_visit::inner::visit`: a record's normal target has a mark, and a visit of it has room.
-- Assumes nothing.
use Rattle.std.proofs.Common.{◌≡◌, length, sym, ◌∙◌, arith, length-set}
use Rattle.current_columns.specs.AsProject.{project}
use Rattle.expected_visit.proofs.Walking.{walking-fewer, walking-room, target-marked}
use Rattle.expected_visit.proofs.inner.+visit.Goals as goal

pub bounds-marks-t : goal.bounds-marks-t
unfolding project
bounds-marks-t t c =
    let size = rw (← c.columns.view_is) at c.requires.fit.normals in
    target-marked (project c.columns.inside) _ c.loop-row.row _ _
    (c.loop-row.auto.marks ∙ length-set c.args.marks.now c.args.m 1 ∙ sym size) c.resolve-found.ensures c.in-Normal.is

pub visit-count-requires : goal.visit-count-requires
unfolding project
visit-count-requires t c =
    let g = c.loop-row.invariant.going in
    let size = rw (← c.columns.view_is) at c.requires.fit.normals in
    let n : length c.loop-row.marks ≡ length c.args.marks.now = c.loop-row.auto.marks ∙ length-set c.args.marks.now c.args.m 1 in
    let there = target-marked (project c.columns.inside) _ c.loop-row.row _ _ (n ∙ sym size) c.resolve-found.ensures c.in-Normal.is in (
      omega (arith, walking-fewer _ _ _ _ _ _ _ _ _ _ g (omega arith) c.if-marks-at-ne0.false, c.decreases),
      (rw n c.requires.fit, (c.requires.starts, (omega (arith, n), (there, omega (arith, walking-room _ _ _ _ _ _ _ _ _ _ g (omega arith) c.if-marks-at-ne0.false c.requires.room))))),
    )
