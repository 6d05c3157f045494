use Rattle.std.proofs.Common.{◌∙◌, sym}
use Rattle.text_rows.proofs.Cell.{cell-none, cell-end, cell_other, cell-some}
use Rattle.text_rows.proofs.fields.read_cell.Goals as goal

pub returns-in_err-v : goal.returns-in_err-v
returns-in_err-v c = rw c.from_residual.ensures (cell-none c.args.s.now c.args.at c.args.end c.in_err-v.ensures c.requires)

pub returns-in_err-get : goal.returns-in_err-get
returns-in_err-get c =
    rw c.from_residual-in_err-get.ensures
    (cell-end c.args.s.now c.args.at c.args.end c.in_ok-v.v c.in_ok-v.i c.in_ok-v.ensures.0 c.requires c.in_err-get.ensures.lookup.3)

pub returns-then-branch-end : goal.returns-then-branch-end
returns-then-branch-end c =
    let b = c.in_ok-get.ensures.lookup.3 in
    cell_other c.args.s.now c.args.at c.args.end c.in_ok-v.v c.in_ok-v.i c.in_ok-v.ensures.0 c.requires b.0 (λ q. c.if-branch-end.true (b.1 0 ∙ q))

pub returns : goal.returns
returns c =
    let b = c.in_ok-get.ensures.lookup.3 in
    cell-some c.args.s.now c.args.at c.args.end c.in_ok-v.v c.in_ok-v.i c.in_ok-v.ensures.0 c.requires b.0 (sym (b.1 0) ∙ c.if-branch-end.false)
