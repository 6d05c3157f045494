use Rattle.std.proofs.Common.{◌∙◌, sym, None}
use Rattle.text_rows.specs.inner.Cells.{ender}
use Rattle.text_rows.specs.inner.Steps.{CellIs}
use Rattle.text_rows.proofs.Turn.{begin, step, finish, refuse-row, refuse-byte, refuse-end}
use Rattle.text_rows.proofs.inner.read_rows.Goals as goal
use Rattle.text_rows.proofs.inner.read_rows.Goals.{then-left-last-via-then-left-last, then-left-last-via-else-left-last+in_ok-get+then-branch-ne10}

pub loop-v-init : goal.loop-v-init
loop-v-init c = begin c.args.s.now c.args.at c.args.last c.args.out.now c.args.from c.requires.0

pub loop-v-preserved : goal.loop-v-preserved
loop-v-preserved c =
    let a = c.args in
    let l = c.loop-v in
    rw c.next_left-left.ensures
    (step a.s.now a.at a.last a.out.now a.from l.out l.i l.k l.left c.in-Some.v c.in-Some.next l.invariant (rw c.end_of.ensures.0 at c.in-Some.ensures))

pub returns-in_err-get : goal.returns-in_err-get
returns-in_err-get c =
    let a = c.args in
    let l = c.loop-v in
    rw c.from_residual.ensures (refuse-end a.s.now a.at a.last a.out.now a.from l.out l.i l.k l.left l.invariant c.in_err-get.ensures.lookup.3)

pub returns-then-left-last : goal.returns-then-left-last
returns-then-left-last c =
    let a = c.args in
    let l = c.loop-v in
    let cell : CellIs a.s.now l.i (ender l.left) None = rw c.end_of.ensures.0 at c.in_default.ensures in
    elim c.then-left-last.branch [
      | then-left-last-via-then-left-last w ↦ refuse-row a.s.now a.at a.last a.out.now a.from l.out l.i l.k l.left l.invariant cell w.if-left-last.true
      | then-left-last-via-else-left-last+in_ok-get+then-branch-ne10 w ↦
          let b = w.in_ok-get.ensures.lookup.3 in
          refuse-byte a.s.now a.at a.last a.out.now a.from l.out l.i l.k l.left l.invariant cell b.0 (λ q. w.if-branch-ne10.true (b.1 0 ∙ q))
    ]

pub returns : goal.returns
returns c =
    let a = c.args in
    let l = c.loop-v in
    let b = c.in_ok-get.ensures.lookup.3 in
    finish a.s.now a.at a.last a.out.now a.from l.out l.i l.k l.left l.invariant c.if-left-last.false b.0 (sym (b.1 0) ∙ c.if-branch-ne10.false)
