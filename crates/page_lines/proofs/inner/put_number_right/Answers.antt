use Rattle.std.proofs.Common.{ℕ, ◌-◌, arith}
use lib.ListN.{length-replicate}
use Rattle.form.specs.Form.{number}
use Rattle.lines.proofs.Written.{kept}
use Rattle.page_lines.proofs.Texts.{four-digits}
use Rattle.page_lines.proofs.Columns.{column}
use Rattle.page_lines.proofs.inner.put_number_right.Goals as goal

pub overflow_sub-k : goal.overflow_sub-k
overflow_sub-k c = omega (arith, four-digits c.args.n c.requires.0)

pub put_number-requires : goal.put_number-requires
put_number-requires c =
    omega (arith, four-digits c.args.n c.requires.0, length-replicate {A = ℕ} (8 - c.number_len-k.result) 32, kept c.put_spaces.ensures)

pub returns : goal.returns
returns c = column (number c.args.n) (8 - c.number_len-k.result) (omega arith) c.put_spaces.ensures c.put_number.ensures
