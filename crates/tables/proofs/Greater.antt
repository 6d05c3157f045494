-- The greater of two is no less than either, and one of them.
-- Assumes nothing.
use Rattle.std.specs.Prelude.{◌≡◌, ℕ, ◌≤◌, ltb, ◌⊎◌}
use mathlib.Core.Logic.{inl, inr, ⊎_elim}
use native.Mathlib.Nat.{le_refl}
use native.Mathlib.Omega.{arith}
use borrow.Author.Tests.{ltb-true, ltb-false}
use Rattle.lists.proofs.Laws.{both}
use Rattle.tables.specs.Lookups.{greater_of}

module _ (a b : ℕ) where
  pub greater-first : a ≤ greater_of a b
  greater-first = ⊎_elim (λ e. rw e (omega (arith, ltb-true a b e))) (λ e. rw e (le_refl a)) (both (ltb a b))

  pub greater-second : b ≤ greater_of a b
  greater-second = ⊎_elim (λ e. rw e (le_refl b)) (λ e. rw e (ltb-false a b e)) (both (ltb a b))

  pub greater-one : (greater_of a b ≡ a) ⊎ (greater_of a b ≡ b)
  greater-one = ⊎_elim (λ e. inr (rw e)) (λ e. inl (rw e)) (both (ltb a b))
