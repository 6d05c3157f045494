-- `jolmuqter_c::tested`: a refusal is the answer, and else the count is 0.
-- Assumes nothing.
use Rattle.std.proofs.Common.{refl}
use Rattle.std.proofs.lemmas.Result.{err_from_is_err_and}
use Rattle.tables.proofs.Answering.{answer-accepted, answer-refused, tested-passed, tested-refused}
use Rattle.table.specs.Lending.{as_lent}
use Rattle.jolmuqter_c.proofs.tested.Goals as goal

pub returns : goal.returns
returns c = answer-accepted (tested-passed (as_lent c.args.table.now).refused c.in_ok-test.ensures) refl

pub returns-in_err-test : goal.returns-in_err-test
returns-in_err-test c =
    let p = err_from_is_err_and c.from_residual.result c.from_residual.ensures.1 in
    rw (p.1, p.2) (answer-refused 0 (tested-refused (as_lent c.args.table.now).refused c.in_err-test.ensures))
