use Rattle.page_lines.proofs.Columns.{spaces}
use Rattle.page_lines.proofs.inner.put_spaces.Goals as goal

pub returns : goal.returns
returns c = spaces c.args.k c.requires.0 c.put_bytes.ensures
