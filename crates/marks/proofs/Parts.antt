-- The part of a zeroed array that is lent.
-- Assumes nothing.
use Rattle.std.specs.Prelude.{◌≡◌, ℕ, zero, suc, ◌≤◌, true, not, length, get_or, take, replicate}
use mathlib.Core.Path.{refl, sym, ap, ◌∙◌}
use mathlib.Core.Bool.{false≢true}
use native.Mathlib.Omega.{arith}
use lib.ListN.{length-replicate}
use lib.Seq.{length-take-le}
use Rattle.lists.specs.Words.{is_zero, has}
use Rattle.walk.specs.Close.{Bits}

zero-at : (K n m : ℕ) → ◌≡◌ {A = ℕ} (get_or (take n (replicate K 0)) m 0) 0
zero-at zero zero m = refl
zero-at zero (suc n) m = refl
zero-at (suc K) zero m = refl
zero-at (suc K) (suc n) zero = refl
zero-at (suc K) (suc n) (suc m) = zero-at K n m

-- nothing is marked in it
pub part_none : (K n m : ℕ) → has (take n (replicate K 0)) m ≡ true → ⊥
part_none K n m e = false≢true (sym (ap (λ (x : ℕ). not (is_zero x)) (zero-at K n m)) ∙ e)

-- and its marks are 0
pub part-bits : (K n : ℕ) → Bits (take n (replicate K 0))
unfolding Bits
part-bits K n m = let z = zero-at K n m in omega arith

pub part_length : (K n : ℕ) → n ≤ K → length {A = ℕ} (take n (replicate K 0)) ≡ n
part_length K n fits = length-take-le n (replicate K 0) (omega (arith, length-replicate {A = ℕ} K 0))
