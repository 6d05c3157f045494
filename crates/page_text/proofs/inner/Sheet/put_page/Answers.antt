use Rattle.std.proofs.Common.{List, ℕ, ◌++◌, length, ap, ap₂, arith}
use mathlib.Core.List.{flat_map}
use Rattle.lines.proofs.Written.{put_as, put_then, kept}
use Rattle.page_text.specs.inner.Sheets.{SheetRows, line_with}
use Rattle.page_text.proofs.inner.Sheet.put_page.Goals as goal

pub put_rows-requires-2-clause-room : goal.put_rows-requires-2-clause-room
put_rows-requires-2-clause-room c =
    omega (arith, kept c.put_rows.ensures.lines, ap (λ (s : SheetRows). length s.expected) c.self.view_is, ap (λ (s : SheetRows). length s.others) c.self.view_is)

pub returns : goal.returns
returns c =
    put_as
    (ap₂ (λ (xs ys : List ℕ). flat_map (line_with c.args.self.now) xs ++ flat_map (line_with c.args.self.now) ys) (ap (λ (s : SheetRows). s.expected) c.self.view_is) (ap (λ (s : SheetRows). s.others) c.self.view_is))
    (put_then c.put_rows.ensures.lines c.put_rows-2.ensures.lines)
