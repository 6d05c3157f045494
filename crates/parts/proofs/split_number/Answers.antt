-- `split_number`: a digit is taken, and what is none ends the number.
use Rattle.std.proofs.Common.{rules, ℕ, sym, ap, ◌∙◌, arith}
use Rattle.parts.specs.Digits.{digits_from, behind_digits}
use Rattle.parts.proofs.Digits.{digit-taken, digit-none, text-ends, digit-value}
use Rattle.parts.proofs.split_number.Goals as goal

pub returns-then-not-is_ascii_digit-clause-number : goal.returns-then-not-is_ascii_digit-clause-number
returns-then-not-is_ascii_digit-clause-number c =
    let x = c.in-Some in
    (digit-none c.loop-digit.value x.digit.now x.behind.now (search rules)).0 ∙ ap (digits_from c.loop-digit.value) (sym x.ensures.cases.0) ∙ c.loop-digit.invariant.0

pub returns-then-not-is_ascii_digit-clause-rest : goal.returns-then-not-is_ascii_digit-clause-rest
returns-then-not-is_ascii_digit-clause-rest c =
    let x = c.in-Some in
    x.ensures.cases.0 ∙ (digit-none c.loop-digit.value x.digit.now x.behind.now (search rules)).1 ∙ ap behind_digits (sym x.ensures.cases.0) ∙ c.loop-digit.invariant.1

pub loop-digit-preserved : goal.loop-digit-preserved
loop-digit-preserved c =
    let x = c.in-Some in
    let value = digit-value c.loop-digit.value x.digit.now c.saturating_mul.result c.from.result c.saturating_add-value.result c.saturating_mul.ensures c.from.ensures c.saturating_add-value.ensures in
    let taken = digit-taken c.loop-digit.value x.digit.now x.behind.now (search rules) in (
      ap (λ (v : ℕ). digits_from v x.behind.now) value ∙ taken.0 ∙ ap (digits_from c.loop-digit.value) (sym x.ensures.cases.0) ∙ c.loop-digit.invariant.0,
      taken.1 ∙ ap behind_digits (sym x.ensures.cases.0) ∙ c.loop-digit.invariant.1,
      omega (arith, x.ensures.cases.1, c.loop-digit.invariant.2),
    )

pub returns-clause-number : goal.returns-clause-number
returns-clause-number c = (text-ends c.loop-digit.value c.loop-digit.rest.now c.in_default.ensures.cases).0 ∙ c.loop-digit.invariant.0

pub returns-clause-rest : goal.returns-clause-rest
returns-clause-rest c = (text-ends c.loop-digit.value c.loop-digit.rest.now c.in_default.ensures.cases).1 ∙ c.loop-digit.invariant.1
