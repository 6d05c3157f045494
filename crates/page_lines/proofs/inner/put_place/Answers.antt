use Rattle.std.proofs.Common.{◌-◌, arith}
use Rattle.page_lines.proofs.Columns.{no_place, place_from}
use Rattle.page_lines.proofs.inner.put_place.Goals as goal

pub returns-then-place-eq0 : goal.returns-then-place-eq0
returns-then-place-eq0 c = no_place c.args.place c.if-place-eq0.true c.put_none.ensures

pub returns-else-place-eq0 : goal.returns-else-place-eq0
returns-else-place-eq0 c = place_from c.args.place (c.args.place - 1) (omega arith) c.put_number_right.ensures
