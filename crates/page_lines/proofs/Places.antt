-- The difference of two numbers below 4096 is an i32.
-- Assumes nothing.
use Rattle.std.specs.Prelude.{ℕ, zero, suc, ◌-◌, ◌<◌, Bool, true, false, cond, ltb, ℤ, pos, negsuc, ◌-ℤ◌}
use native.Mathlib.Omega.{arith}
use lib.Signed.{mag}
use mir.Syntax.{w32}
use mir.Val.{SFits}

either : (t : Bool) (x y : ℤ) → mag x < 4096 → mag y < 4096 → mag (cond t x y) < 4096
either true x y p q = p
either false x y p q = q

pub mag-sub : (a b : ℕ) → a < 4096 → b < 4096 → mag (pos a -ℤ pos b) < 4096
mag-sub a zero ha hb = omega arith
mag-sub a (suc b) ha hb = either (ltb a (suc b)) (negsuc (suc b - suc a)) (pos (a - suc b)) (omega arith) (omega arith)

pub sub-fits : (a b : ℕ) → a < 4096 → b < 4096 → SFits w32 (pos a -ℤ pos b)
sub-fits a b ha hb = record { sfits = omega (arith, mag-sub a b ha hb) }
