use Rattle.std.proofs.Common.{arith}
use Rattle.text_rows.proofs.Positions.{front-end, front-dash, front-nought, front_low, front-high, front-digits}
use Rattle.text_rows.proofs.fields.read_field.Goals as goal

pub returns-in_err-b : goal.returns-in_err-b
returns-in_err-b c = rw c.from_residual.ensures (front-end c.args.s.now c.args.at c.in_err-b.ensures.lookup.3)

pub returns-in-45 : goal.returns-in-45
returns-in-45 c =
    let b = c.in_ok-b.ensures.lookup.3 in
    (front-dash c.args.s.now c.args.at c.in_ok-b.field-0.now b.0 (b.1 0) c.in-45.is, omega (arith, b.0))

pub returns-in-48 : goal.returns-in-48
returns-in-48 c =
    let b = c.in_ok-b.ensures.lookup.3 in
    (front-nought c.args.s.now c.args.at c.in_ok-b.field-0.now b.0 (b.1 0) (omega arith) c.in-48.is, omega (arith, b.0))

pub returns-in-49-to-57 : goal.returns-in-49-to-57
returns-in-49-to-57 c =
    let b = c.in_ok-b.ensures.lookup.3 in
    rw (front-digits c.args.s.now c.args.at c.in_ok-b.field-0.now b.0 (b.1 0) (omega arith) (omega arith)) c.further_digits.ensures

pub returns-in_default : goal.returns-in_default
returns-in_default c =
    let b = c.in_ok-b.ensures.lookup.3 in
    front_low c.args.s.now c.args.at c.in_ok-b.field-0.now b.0 (b.1 0) (omega arith) (omega arith) (omega arith)

pub returns-in_default-2 : goal.returns-in_default-2
returns-in_default-2 c =
    let b = c.in_ok-b.ensures.lookup.3 in
    front-high c.args.s.now c.args.at c.in_ok-b.field-0.now b.0 (b.1 0) (omega arith)
