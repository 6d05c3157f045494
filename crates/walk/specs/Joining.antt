-- Members that join a set one by one.
-- Assumes nothing.
use Rattle.std.specs.Prelude.{◌≡◌, false, List, [], ◌∷◌, ◌++◌, ℕ}
use Rattle.lists.specs.Words.{elem, marks_of}
use Rattle.walk.specs.Walk.{snoc}

-- the set of just the members of a list, over n places
abbrev pub set_of : ℕ → List ℕ → List ℕ
set_of n xs = marks_of (λ (x : ℕ). elem x xs) n

-- an order of joining: each stands once, and may join those before it
pub data Joins (may : List ℕ → ℕ → Type 0) : List ℕ → Type 0 where
  none : Joins may []
  joined : {before : List ℕ} {m : ℕ} → Joins may before → elem m before ≡ false → may before m → Joins may (snoc before m)

-- the place of m in an order: it may join those before it
pub record Place (may : List ℕ → ℕ → Type 0) (order : List ℕ) (m : ℕ) : Type 0 where
  pub before : List ℕ
  pub after : List ℕ
  pub splits : order ≡ before ++ (m ∷ after)
  pub joins : may before m
