-- `shares::write_share` keeps its promise.
-- Assumes nothing.
use Rattle.std.proofs.Common.{arith}
use Rattle.std.proofs.lemmas.Result.{err_from_is_err_and}
use Rattle.arrangement.specs.OfProject.{as_named}
use Rattle.shares.proofs.Promise.{share-refused, share-short, share-written}
use Rattle.shares.proofs.write_share.Goals as goal

pub returns-in_err-counted : goal.returns-in_err-counted
returns-in_err-counted c = let p = err_from_is_err_and c.from_residual.result c.from_residual.ensures.1 in rw (p.1, p.2) (share-refused _ _ c.in_err-counted.ensures)

pub returns-then-out-lt4 : goal.returns-then-out-lt4
returns-then-out-lt4 c = share-short _ _ c.in_ok-counted.ensures (omega arith)

pub returns : goal.returns
returns c = rw c.copy_from_slice.ensures.after (share-written (as_named c.args.table.now) c.args.out.now c.in_ok-counted.ensures (omega arith))
