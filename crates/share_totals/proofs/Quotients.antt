-- Quotients and remainders of 1,000 times the planned by the eligible modules.
-- Assumes nothing.
use Rattle.std.specs.Prelude.{◌≡◌, ℕ, zero, suc, ◌*◌, ◌/◌, ◌%◌, ◌<◌, ◌≤◌}
use mathlib.Core.Path.{refl}
use native.Mathlib.Omega.{arith}
use native.Mathlib.Nat.{div-le_of_le-mul, mod-lt}
use Rattle.share_totals.specs.Shares.{quotient_of, remainder_of}

-- a share is 1,000 at most
pub quotient-small : (e p : ℕ) → p ≤ e → 1000 * p / e ≤ 1000
quotient-small e p h = div-le_of_le-mul e (omega arith)

pub quotient-of : (e p : ℕ) → (e ≡ 0 → ⊥) → 1000 * p / e ≡ quotient_of e p
quotient-of zero p h = absurd (h refl)
quotient-of (suc e) p h = refl

pub remainder_of_lem : (e p : ℕ) → (e ≡ 0 → ⊥) → 1000 * p % e ≡ remainder_of e p
remainder_of_lem zero p h = absurd (h refl)
remainder_of_lem (suc e) p h = refl

-- a remainder is below what it is of
pub remainder-small : (e p : ℕ) → (e ≡ 0 → ⊥) → 1000 * p % e < e
remainder-small e p h = mod-lt (1000 * p) (omega arith)

pub ruleset quotients = (quotient-small, quotient-of)

pub ruleset remainders = (remainder-small, remainder_of_lem)
