-- Facts as numbers: 1 for yes, 0 for no.
-- Assumes nothing.
use Rattle.std.specs.Prelude.{◌≡◌, ℕ, ◌*◌, ◌≤◌, Bool, true, false, not, ◌&&◌}
use mathlib.Core.Path.{refl, ap, ◌∙◌}
use native.Mathlib.Omega.{arith}
use mir.Val.{bool_byte}
use Rattle.lists.specs.Words.{bit}

-- a comparison as a number
pub as_number : (b : Bool) → bool_byte b ≡ bit b
as_number true = refl
as_number false = refl

-- the same for a fact that is said by its opposite
pub as-number-twice-not : (b : Bool) → bool_byte b ≡ bit (not (not b))
as-number-twice-not true = refl
as-number-twice-not false = refl

-- a number that is a fact
pub record Fact (n : ℕ) : Type 0 where
  pub holds : Bool
  pub told : n ≡ bit holds

-- such a number is at most 1
pub small : {n : ℕ} → Fact n → n ≤ 1
small f = go f.holds f.told
  where
    go : {n : ℕ} (b : Bool) → n ≡ bit b → n ≤ 1
    go true e = omega (arith, e)
    go false e = omega (arith, e)

infixl 7 ◌and◌
-- the product of two facts is the fact that both hold
abbrev pub ◌and◌ : {x y : ℕ} → Fact x → Fact y → Fact (x * y)
◌and◌ {x} {y} f g = record {
  holds = f.holds && g.holds;
  told = ap (λ (n : ℕ). n * y) f.told ∙ ap (λ (n : ℕ). bit f.holds * n) g.told ∙ both f.holds g.holds;
}
  where
    both : (a b : Bool) → bit a * bit b ≡ bit (a && b)
    both true true = refl
    both true false = refl
    both false true = refl
    both false false = refl

-- five facts, from the left and from the right
pub five : (a b c d e : Bool) → ((((a && b) && c) && d) && e) ≡ (a && (b && (c && (d && e))))
five false b c d e = refl
five true false c d e = refl
five true true false d e = refl
five true true true d e = refl
