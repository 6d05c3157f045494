use Rattle.std.proofs.Common.{arith}
use Rattle.text_rows.specs.inner.Cells.{head}
use Rattle.text_rows.proofs.Line.{line_on}
use Rattle.text_rows.proofs.Listed.{list-no-line, list_rows}
use Rattle.text_rows.proofs.inner.read_list.Goals as goal

pub returns-in_err-next : goal.returns-in_err-next
returns-in_err-next c =
    let a = c.args in
    rw c.from_residual.ensures (list-no-line a.s.now (head a.name.now a.last) a.out.now a.out.now a.c c.in_err-next.ensures, tt)

pub read_rows-requires : goal.read_rows-requires
read_rows-requires c =
    (c.in_ok-next.ensures.1, omega (arith, c.requires.1, line_on c.args.s.now c.args.c.at c.args.name.now c.in_ok-next.next c.in_ok-next.ensures))

pub returns : goal.returns
returns c =
    let a = c.args in
    list_rows a.s.now (head a.name.now a.last) a.out.now c.read_rows.new.out a.c c.in_ok-next.next c.requires c.in_ok-next.ensures c.read_rows.result c.read_rows.ensures
