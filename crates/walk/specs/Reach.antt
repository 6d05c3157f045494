-- Paths over any successor function. They name no walk.
-- Assumes nothing.
use Rattle.std.specs.Prelude.{◌≡◌, Bool, ◌&&◌, ℕ, ltb}
use mathlib.Core.List.{List, Memᴰ}
use Rattle.lists.specs.Words.{keep}

module _ (succ : ℕ → List ℕ) where
  -- a path of zero or more steps from m to x
  pub data Reach : ℕ → ℕ → Type 0 where
    here : {m x : ℕ} → x ≡ m → Reach m x
    step : {m y x : ℕ} → Memᴰ y (succ m) → Reach y x → Reach m x

  -- a path of one or more steps
  unfoldable pub Reach⁺ : ℕ → ℕ → Type 0
  Reach⁺ m x = (y : ℕ) × Memᴰ y (succ m) × Reach y x

  -- a path from one of several places
  unfoldable pub ReachAny : List ℕ → ℕ → Type 0
  ReachAny roots x = (r : ℕ) × Memᴰ r roots × Reach r x

-- a place below n that passes the gate
abbrev pub passing : (ℕ → Bool) → ℕ → ℕ → Bool
passing gate n x = gate x && ltb x n

-- the steps to places below n that pass the gate
abbrev pub through : (ℕ → List ℕ) → (ℕ → Bool) → ℕ → ℕ → List ℕ
through succ gate n m = keep (passing gate n) (succ m)
