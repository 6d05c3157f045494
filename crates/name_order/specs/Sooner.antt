-- Lists of numbers, as bytes are, in the order of a dictionary.
-- Assumes nothing.
use Rattle.std.specs.Prelude.{ℕ, Bool, true, false, cond, List, [], ◌∷◌, ◌==◌, nat_lt}

-- the first list goes before the second: at the first place where they differ it has less, or nothing
unfoldable pub sooner : List ℕ → List ℕ → Bool
sooner xs [] = false
sooner [] (y ∷ ys) = true
sooner (x ∷ xs) (y ∷ ys) = cond (x == y) (sooner xs ys) (nat_lt x y)

-- the second list begins with the first
unfoldable pub begins : List ℕ → List ℕ → Bool
begins [] ys = true
begins (x ∷ xs) [] = false
begins (x ∷ xs) (y ∷ ys) = cond (x == y) (begins xs ys) false
