-- A run at the front of an array, and arrays of zeros.
-- Assumes nothing.
use Rattle.std.specs.Prelude.{◌≡◌, ℕ, zero, suc, ◌+◌, ◌≤◌, List, ◌∷◌, ◌++◌, length, get_or, take, drop, replicate}
use mathlib.Core.Path.{refl, ap, ◌∙◌}
use native.Mathlib.Omega.{arith}
use lib.Seq.{sets, sets-eq}

-- a run from place 0
pub sets-front : (l xs : List ℕ) → length xs ≤ length l → sets l 0 xs ≡ xs ++ drop (length xs) l
sets-front l xs h = sets-eq xs l 0 (omega arith) ∙ ap (λ (k : ℕ). xs ++ drop k l) {x = 0 + length xs} {y = length xs} (omega arith)

-- a part of an array of zeros
pub take-zeros : (n k : ℕ) → n ≤ k → take {A = ℕ} n (replicate k 0) ≡ replicate n 0
take-zeros zero k l = refl
take-zeros (suc n) zero l = absurd (omega arith)
take-zeros (suc n) (suc k) l = ap (λ (z : List ℕ). 0 ∷ z) (take-zeros n k (omega arith))

-- whatever is read of it
pub zeros-at : (n i : ℕ) → ◌≡◌ {A = ℕ} (get_or (replicate n 0) i 0) 0
zeros-at zero i = refl
zeros-at (suc n) zero = refl
zeros-at (suc n) (suc i) = zeros-at n i
