-- Import circles: the paths that the module sort yields.
-- Assumes nothing.
use Rattle.std.specs.Prelude.{Bool, true, false, cond, ◌&&◌, ℕ, zero, suc, eqb}
use mathlib.Core.List.{List, [], ◌∷◌, ◌++◌, foldl}
use Rattle.lists.specs.Words.{elem, any}
use Rattle.walk.specs.Walk.{snoc}

-- two lists are the same
abbrev pub same_list : List ℕ → List ℕ → Bool
same_list [] [] = true
same_list [] (y ∷ ys) = false
same_list (x ∷ xs) [] = false
same_list (x ∷ xs) (y ∷ ys) = eqb x y && same_list xs ys

-- what stands from x on
abbrev pub from : ℕ → List ℕ → List ℕ
from x [] = []
from x (y ∷ ys) = cond (eqb x y) (y ∷ ys) (from x ys)

-- all but the last
abbrev pub front : List ℕ → List ℕ
front [] = []
front (x ∷ []) = []
front (x ∷ y ∷ ys) = x ∷ front (y ∷ ys)

-- the search: "the begun modules still without a number, in the order they were begun", those with a number, and the paths found
pub record Search : Type 0 where
  pub begun : List ℕ
  pub numbered : List ℕ
  pub paths : List (List ℕ)

-- "from that one on .., then that module again"
abbrev pub path_to : ℕ → List ℕ → List ℕ
path_to m begun = snoc (from m begun) m

-- "equal paths are kept the first time, in order of finding"
abbrev pub keep_once : List ℕ → List (List ℕ) → List (List ℕ)
keep_once path paths = cond (any (same_list path) paths) paths (paths ++ (path ∷ []))

abbrev pub found : ℕ → Search → Search
found m s = record { begun = s.begun; numbered = s.numbered; paths = keep_once (path_to m s.begun) s.paths }

abbrev pub begin : ℕ → Search → Search
begin m s = record { begun = snoc s.begun m; numbered = s.numbered; paths = s.paths }

abbrev pub number : ℕ → Search → Search
number m s = record { begun = front s.begun; numbered = snoc s.numbered m; paths = s.paths }

module _ (succ : ℕ → List ℕ) where
  -- meeting m: with a number it is passed; begun, it yields a path; else it is begun, its targets are met in order, and it takes its number
  unfoldable pub meet : ℕ → Search → ℕ → Search
  meet zero s m = s
  meet (suc k) s m =
      elim (elem m s.numbered) [
        | true ↦ s
        | false ↦
            elim (elem m s.begun) [ true ↦ found m s | false ↦ number m (foldl (meet k) (begin m s) (succ m)) ]
      ]

  -- over n modules: one more than n, since the n-th begun module can meet a begun one
  unfoldable pub circles : ℕ → List ℕ → List (List ℕ)
  circles n roots = (foldl (meet (suc n)) (record { begun = []; numbered = []; paths = [] }) roots).paths
