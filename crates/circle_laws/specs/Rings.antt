-- A ring over any successor function. It names no search.
-- Assumes nothing.
use Rattle.std.specs.Prelude.{◌≡◌, ℕ}
use mathlib.Core.List.{List, [], ◌∷◌, Memᴰ}
use Rattle.lists.specs.Words.{Distinct}
use Rattle.walk.specs.Walk.{snoc}

module _ (succ : ℕ → List ℕ) where
  -- each is a successor of the one before
  unfoldable pub Steps : List ℕ → Type 0
  Steps [] = Unit {0}
  Steps (x ∷ []) = Unit {0}
  Steps (x ∷ y ∷ l) = Memᴰ y (succ x) × Steps (y ∷ l)

  -- all different, and then the first again
  pub record Ring (path : List ℕ) : Type 0 where
    pub first : ℕ
    pub others : List ℕ
    pub closes : path ≡ first ∷ snoc others first
    pub different : Distinct (first ∷ others)
    pub follows : Steps path
