-- A digit is taken, and what is none ends the number.
-- Assumes nothing.
use Rattle.std.specs.Prelude.{◌≡◌, true, false, ℕ, ◌+◌, ◌-◌, ◌*◌, ◌^◌, List, [], ◌∷◌, length, min}
use Rattle.std.specs.Char.{is_ascii_digit}
use mathlib.Core.Path.{refl}
use native.Mathlib.Omega.{arith}
use Rattle.parts.specs.Digits.{behind_digits, digits_from, with_digit}

module _ (value b : ℕ) (bs : List ℕ) where
  pub digit-taken : is_ascii_digit b ≡ true → (digits_from (with_digit value b) bs ≡ digits_from value (b ∷ bs)) × (behind_digits bs ≡ behind_digits (b ∷ bs))
  unfolding digits_from behind_digits
  digit-taken e = rw e (refl, refl)

  pub digit-none : is_ascii_digit b ≡ false → (value ≡ digits_from value (b ∷ bs)) × (b ∷ bs ≡ behind_digits (b ∷ bs))
  unfolding digits_from behind_digits
  digit-none e = rw e (refl, refl)

pub text-ends : (value : ℕ) (xs : List ℕ) → length xs ≡ 0 → (value ≡ digits_from value xs) × (xs ≡ behind_digits xs)
unfolding digits_from behind_digits
text-ends value [] e = (refl, refl)
text-ends value (b ∷ bs) e = absurd (omega (arith, e))

-- a number stops at its limit though it is made by two steps
pub digit-value : (value b product digit sum : ℕ) → product ≡ min (value * 10) 4294967295 → digit ≡ b - 48 → sum ≡ min (product + digit) 4294967295 → sum ≡ with_digit value b
digit-value value b product digit sum p d s = omega (arith, p, d, s)
