-- Circles computed.
-- Assumes nothing.
use mathlib.Core.Path.{◌≡◌, refl}
use mathlib.Core.List.{List, [], ◌∷◌}
use Prim.Native.Nat.{ℕ, zero, suc}
use Rattle.circle_search.specs.Circles.{meet, circles}

at : List (List ℕ) → ℕ → List ℕ
at [] m = []
at (xs ∷ xss) zero = xs
at (xs ∷ xss) (suc m) = at xss m

-- 0 to 1, 2, 1; 1 to 2; 2 to 0, 1, 0, 2: the ring through all three, and each path once
three-rings : circles (at ((1 ∷ 2 ∷ 1 ∷ []) ∷ (2 ∷ []) ∷ (0 ∷ 1 ∷ 0 ∷ 2 ∷ []) ∷ [])) 3 (0 ∷ 1 ∷ []) ≡ (0 ∷ 1 ∷ 2 ∷ 0 ∷ []) ∷ (1 ∷ 2 ∷ 1 ∷ []) ∷ (2 ∷ 2 ∷ []) ∷ []
unfolding circles meet at
three-rings = refl
