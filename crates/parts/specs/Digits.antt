-- The number whose digits stand first in a text.
-- Assumes nothing.
use Rattle.std.specs.Prelude.{cond, List, [], ◌∷◌, ℕ, ◌+◌, ◌-◌, ◌*◌, ◌^◌, min}
use Rattle.std.specs.Char.{is_ascii_digit}

-- what stands behind the digits
unfoldable pub behind_digits : List ℕ → List ℕ
behind_digits [] = []
behind_digits (b ∷ bs) = cond (is_ascii_digit b) (behind_digits bs) (b ∷ bs)

-- the number with a digit more, 2 ^ 32 - 1 where it is larger
abbrev pub with_digit : ℕ → ℕ → ℕ
with_digit value b = min (value * 10 + (b - 48)) (2 ^ 32 - 1)

-- the number of the digits, where those before them are a value
unfoldable pub digits_from : ℕ → List ℕ → ℕ
digits_from value [] = value
digits_from value (b ∷ bs) = cond (is_ascii_digit b) (digits_from (with_digit value b) bs) value
