-- `share_of_text`: what was read is shared, and no project's text is refused.
-- Assumes nothing.
use Rattle.std.proofs.lemmas.Result.{err_from_is_err_and}
use Rattle.share_text.proofs.Texts.{text-refused, text-shared}
use Rattle.share_text.proofs.share_of_text.Goals as goal

pub returns : goal.returns
returns c = text-shared c.args.text.now c.in_ok-table.table c.share.result c.in_ok-table.ensures c.share.ensures

pub returns-in_err-table : goal.returns-in_err-table
returns-in_err-table c = let p = err_from_is_err_and c.from_residual.result c.from_residual.ensures.1 in rw (p.1, p.2) (text-refused c.args.text.now _ c.in_err-table.ensures)
