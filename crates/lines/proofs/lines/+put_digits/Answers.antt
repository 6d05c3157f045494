-- `lines::lines::put_digits` meets its contract: a number of one digit is written, and a longer one behind its tenth.
-- Assumes nothing.
use Rattle.std.proofs.Common.{arith}
use Rattle.lines.proofs.Printing.{short-length, long-length}
use Rattle.lines.proofs.Puts.{put-short, put-long}
use Rattle.lines.proofs.lines.+put_digits.Goals as goal

pub bounds-out-at : goal.bounds-out-at
bounds-out-at t c = omega (arith, short-length c.args.n c.if-n-lt10.true, c.requires)

pub returns-then-n-lt10 : goal.returns-then-n-lt10
returns-then-n-lt10 t c = put-short c.args.out.now c.args.at c.args.n c.digit.result c.if-n-lt10.true c.digit.ensures

pub put_digits-p-requires : goal.put_digits-p-requires
put_digits-p-requires t c = (omega (arith, c.decreases), omega (arith, c.requires, long-length c.args.n (omega arith)))

pub bounds-out-p : goal.bounds-out-p
bounds-out-p t c =
    let p = c.put_digits-p in
    omega (arith, c.requires, long-length c.args.n (omega arith), p.ensures.next, p.auto.out)

pub overflow_add-result-2 : goal.overflow_add-result-2
overflow_add-result-2 t c =
    let p = c.put_digits-p in
    omega (arith, c.requires, long-length c.args.n (omega arith), p.ensures.next, c.well_formed)

pub returns : goal.returns
returns t c =
    let a = c.args in
    let p = c.put_digits-p in
    put-long a.out.now a.at a.n p.new.out p.result c.digit-2.result (omega arith) p.ensures c.digit-2.ensures
