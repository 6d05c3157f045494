use Rattle.std.proofs.Common.{arith, ◌∙◌}
use Rattle.text_rows.proofs.Positions.{inside, part-none, part-big, part-more, part-over}
use Rattle.text_rows.proofs.fields.further_digits.Goals as goal

pub returns-then-d-lt48 : goal.returns-then-d-lt48
returns-then-d-lt48 c =
    let l = c.loop-k in
    let i = inside c.args.s.now c.args.from l.k l.v c.loop-k-test.true in
    (l.invariant.2 ∙ part-none c.args.s.now c.args.from l.k l.v c.loop-k-test.true c.then-d-lt48.either, omega arith)

pub returns-then-n : goal.returns-then-n
returns-then-n c =
    let l = c.loop-k in
    l.invariant.2 ∙ part-big c.args.s.now c.args.from l.k l.v c.loop-k-test.true c.if-d-lt48.false c.if-d-gt57.false (omega arith)

pub loop-k-preserved : goal.loop-k-preserved
loop-k-preserved c =
    let l = c.loop-k in
    (omega arith, omega arith, l.invariant.2 ∙ part-more c.args.s.now c.args.from l.k l.v c.loop-k-test.true c.if-d-lt48.false c.if-d-gt57.false (omega arith))

pub returns : goal.returns
returns c =
    let l = c.loop-k in
    (l.invariant.2 ∙ part-over c.args.s.now c.args.from l.k l.v c.loop-k-test.false, omega arith)
