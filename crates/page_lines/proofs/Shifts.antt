-- The shift of two places, of which there are 4,095 at most: within -4094 and 4094, both reached; and lines by hand.
-- Assumes nothing.
use Rattle.std.specs.Prelude.{◌≡◌, ℕ, zero, suc, ◌-◌, ◌<◌, ◌≤◌, Bool, true, false, cond, ltb, [], ◌∷◌, ◌++◌, ℤ, pos, negsuc, ◌-ℤ◌, nat_abs}
use mathlib.Core.Path.{refl}
use native.Mathlib.Omega.{arith}
use Rattle.form.specs.Form.{bytes, spell, number}
use Rattle.page_lines.specs.Line.{right, signed, place_by, shift_by, line_by}

either : (t : Bool) (x y : ℤ) → nat_abs x ≤ 4094 → nat_abs y ≤ 4094 → nat_abs (cond t x y) ≤ 4094
either true x y p q = p
either false x y p q = q

pub shift-within : (actual expected : ℕ) → actual < 4095 → expected < 4095 → nat_abs (pos actual -ℤ pos expected) ≤ 4094
shift-within actual zero ha he = omega arith
shift-within actual (suc expected) ha he = either (ltb actual (suc expected)) (negsuc (suc expected - suc actual)) (pos (actual - suc expected)) (omega arith) (omega arith)

pub greatest-shift : pos 4094 -ℤ pos 0 ≡ pos 4094
greatest-shift = refl

pub least-shift : pos 0 -ℤ pos 4094 ≡ negsuc 4093
least-shift = refl

-- module 3, expected at 1 and actually at 0, planned; and module 7, which is in the actual order alone
pub early-line : line_by 3 2 1 true ≡ bytes "       3       1       0      -1     yes" ++ 10 ∷ []
unfolding line_by right place_by shift_by signed number spell
early-line = refl

pub unexpected-line : line_by 7 0 3 false ≡ bytes "       7       -       2       -      no" ++ 10 ∷ []
unfolding line_by right place_by shift_by signed number spell
unexpected-line = refl
