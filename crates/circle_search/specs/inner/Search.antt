-- The search as the code makes it: with a state for each module, over any successor function and whatever is made of the paths.
-- Assumes nothing.
use Rattle.std.specs.Prelude.{◌≡◌, Bool, true, false, cond, ℕ, zero, suc, ◌<◌, get_or, set, eqb}
use mathlib.Core.List.{List, [], ◌∷◌, foldl}
use Rattle.lists.specs.Words.{is_zero, zeros, elem}
use Rattle.walk.specs.Walk.{snoc}
use Rattle.circle_search.specs.Circles.{front, path_to}

-- each but where it stands in seen, or stood before
abbrev pub once_after : List ℕ → List ℕ → List ℕ
once_after seen [] = []
once_after seen (x ∷ xs) = cond (elem x seen) (once_after seen xs) (x ∷ once_after (x ∷ seen) xs)

-- each the first time
abbrev pub once : List ℕ → List ℕ
once xs = once_after [] xs

-- states: 0 for a module that is not begun, 1 for one that is begun and has no number, 2 for one that has a number; the begun ones without a
-- number in the order they were begun; and what was made of the paths
pub record Held (A : Type 0) : Type 0 where
  pub states : List ℕ
  pub begun : List ℕ
  pub made : A

module _ {A : Type 0} where
  -- m has a state and is not begun
  abbrev pub is_new : Held A → ℕ → Bool
  is_new s m = is_zero (get_or s.states m 1)

  -- m is begun and has no number
  abbrev pub is_open : Held A → ℕ → Bool
  is_open s m = eqb (get_or s.states m 0) 1

  abbrev pub enter : ℕ → Held A → Held A
  enter m s = record { states = set s.states m 1; begun = snoc s.begun m; made = s.made }

  abbrev pub leave : ℕ → Held A → Held A
  leave m s = record { states = set s.states m 2; begun = front s.begun; made = s.made }

  module _ (succ : ℕ → List ℕ) (put : A → List ℕ → A) where
    abbrev pub close : ℕ → Held A → Held A
    close m s = record { states = s.states; begun = s.begun; made = put s.made (path_to m s.begun) }

    -- meeting m
    unfoldable pub search : ℕ → Held A → ℕ → Held A
    search zero s m = s
    search (suc k) s m =
        elim (is_new s m) [ true ↦ leave m (foldl (search k) (enter m s) (succ m)) | false ↦ elim (is_open s m) [ true ↦ close m s | false ↦ s ] ]

    -- t is what meeting several modules in turn makes of s, with any fuel above the number of those that are not begun
    pub record Searches (s : Held A) (places : List ℕ) (t : Held A) : Type 0 where
      pub same : (k : ℕ) → zeros s.states < k → foldl (search k) s places ≡ t
