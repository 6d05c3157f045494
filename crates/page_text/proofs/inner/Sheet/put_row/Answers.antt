use Rattle.std.proofs.Common.{length, ap, arith}
use Rattle.page_text.specs.inner.Sheets.{SheetRows}
use Rattle.page_text.proofs.Lines.{row-put, row-length}
use Rattle.page_text.proofs.inner.Sheet.put_row.Goals as goal

pub returns : goal.returns
returns c =
    let i = c.self.inside in
    let r : SheetRows = record { expected = i.expected.now; others = i.others.now; expected_places = i.expected_places.now; actual_places = i.actual_places.now; plan = i.plan.now } in
    let l = ap (λ (s : SheetRows). length s.plan) c.self.view_is in
    let p = row-put r c.args.m c.put_page_line.ensures in
    rw (← c.self.view_is) (record { line = p; size = omega (arith, p.put.next, row-length r c.self.invariant.0 c.args.m (omega (arith, l))) })
