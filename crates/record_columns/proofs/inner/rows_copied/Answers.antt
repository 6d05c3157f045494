-- `record_columns::inner::rows_copied` meets its contract.
-- Assumes nothing.
use mathlib.Core.Path.{sym}
use Rattle.record_columns.proofs.Copied.{copied_all, copied_none}
use Rattle.record_columns.proofs.inner.rows_copied.Goals as goal

pub returns-then-rows-gt-ROW_LIMIT : goal.returns-then-rows-gt-ROW_LIMIT
returns-then-rows-gt-ROW_LIMIT c = sym (copied_none _ c.if-rows-gt-ROW_LIMIT.true)

pub returns : goal.returns
returns c = sym (copied_all _ c.if-rows-gt-ROW_LIMIT.false)
