use Rattle.std.proofs.Common.{refl}
use Rattle.form.specs.Form.{bytes}
use Rattle.page_lines.proofs.Columns.{column}
use Rattle.page_lines.proofs.inner.put_none.Goals as goal

pub returns : goal.returns
returns c = column (bytes "-") 7 refl c.put_spaces.ensures c.put_byte.ensures
