use Rattle.std.proofs.Common.{sym, arith}
use Rattle.lines.proofs.Written.{put-none, put_as, put_then, kept}
use Rattle.page_text.specs.inner.Sheets.{line_with}
use Rattle.page_text.proofs.Lines.{lines_none, lines_more}
use Rattle.page_text.proofs.inner.Sheet.put_rows.Goals as goal

pub loop-m-init : goal.loop-m-init
loop-m-init c = record { lines = put_as (sym (lines_none (line_with c.args.self.now))) (put-none c.args.page.now); size = omega arith }

pub put_row-requires-clause-room : goal.put_row-requires-clause-room
put_row-requires-clause-room c = omega (arith, kept c.loop-m.invariant.lines)

pub loop-m-preserved : goal.loop-m-preserved
loop-m-preserved c =
    let l = c.loop-m in
    record {
      lines = put_as (lines_more (line_with c.args.self.now) c.args.rows.now l.m-index c.loop-m-test.true) (put_then l.invariant.lines c.put_row.ensures.line);
      size = omega arith;
    }
