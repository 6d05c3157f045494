use Rattle.std.proofs.Common.{rules, refl}
use Rattle.text_rows.specs.inner.Cells.{name_lines}
use Rattle.text_rows.proofs.inner.read_lists.Goals as goal

pub read_each-requires : goal.read_each-requires
unfolding name_lines
read_each-requires c = (search rules, refl)
