use Rattle.std.proofs.Common.{◌≡◌, ◌+◌, ◌*◌, take}
use mathlib.Core.List.{flat_map}
use Rattle.lines.specs.Writing.{Put}
use Rattle.page_text.specs.inner.Sheets.{line_with}
use Rattle.page_text.proofs.inner.Sheet.put_rows.Given as goal

abbrev pub invariant-loop-m : goal.invariant-loop-m
invariant-loop-m l = record {
  lines : Put (flat_map (line_with l.self) (take l.m-index l.rows)) l.fn.page l.page;
  size : l.page.at ≡ l.fn.page.at + 41 * l.m-index;
}
