use Rattle.std.proofs.Common.{get_or, arith}
use Rattle.lists.specs.Words.{has}
use Rattle.lists.proofs.Laws.{has-not, has-yes}
use Rattle.page_rows.proofs.Keeping.{kept-start, kept_out, kept-room, kept_in, kept-end}
use Rattle.page_rows.proofs.inner.keep_marked.Goals as goal
use Rattle.page_rows.proofs.inner.keep_marked.Goals.{then-marks-m-ne0, else-marks-m-ne0}

pub loop-m-init : goal.loop-m-init
loop-m-init c = kept-start (has c.args.marks.now) c.args.order.now c.args.kept.now

pub returns : goal.returns
returns c =
    let a = c.args in
    let l = c.loop-m in
    kept-end (has a.marks.now) a.order.now a.kept.now c.requires.room l.m-index l.count l.kept l.invariant c.loop-m-test.false

pub bounds-kept-count : goal.bounds-kept-count
bounds-kept-count c =
    let a = c.args in
    let l = c.loop-m in
    omega (arith, kept-room (has a.marks.now) a.order.now a.kept.now c.requires.room l.m-index l.count l.kept l.invariant c.loop-m-test.true (has-yes a.marks.now (get_or a.order.now l.m-index 0) c.if-marks-m-ne0.true))

pub loop-m-preserved : goal.loop-m-preserved
loop-m-preserved c =
    let a = c.args in
    let l = c.loop-m in
    let x = get_or a.order.now l.m-index 0 in
    elim c.if-marks-m-ne0.branch [
      | then-marks-m-ne0 w ↦
          rw (w.count-is, w.kept-is)
          (kept_in (has a.marks.now) a.order.now a.kept.now c.requires.room l.m-index l.count l.kept l.invariant c.loop-m-test.true (has-yes a.marks.now x w.if-marks-m-ne0.true))
      | else-marks-m-ne0 w ↦
          rw (w.count-is, w.kept-is)
          (kept_out (has a.marks.now) a.order.now a.kept.now c.requires.room l.m-index l.count l.kept l.invariant c.loop-m-test.true (has-not a.marks.now x w.if-marks-m-ne0.false))
    ]
