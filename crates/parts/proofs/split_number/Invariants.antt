-- `split_number`: the number of the digits that are left, where those before them are the value.
use Rattle.std.proofs.Common.{◌≡◌, ◌≤◌, length}
use Rattle.parts.specs.Digits.{digits_from, behind_digits}
use Rattle.parts.proofs.split_number.Given as goal

abbrev pub invariant-loop-digit : goal.invariant-loop-digit
invariant-loop-digit l = (digits_from l.value l.rest ≡ digits_from 0 l.fn.text) × (behind_digits l.rest ≡ behind_digits l.fn.text) × (length l.rest ≤ length l.fn.text)

abbrev pub decreases-loop-digit : goal.decreases-loop-digit
decreases-loop-digit l = length l.rest
