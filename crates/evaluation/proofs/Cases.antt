-- The definition computes: small cases, by computation.
-- Assumes nothing.
use mathlib.Core.Path.{◌≡◌, refl}
use mathlib.Core.List.{List, [], ◌∷◌}
use Prim.Native.Nat.{ℕ}
use lib.ListN.{get_or}
use Rattle.evaluation.specs.Evaluation.{evaluated, inner_module_evaluation, evaluate, pop}

-- 0 requests 1 and 2, 1 requests 2 twice, 2 requests 1 and 0: one cycle
abbrev triangle : ℕ → List ℕ
triangle m = get_or ((1 ∷ 2 ∷ []) ∷ (2 ∷ 2 ∷ []) ∷ (1 ∷ 0 ∷ []) ∷ []) m []

triangle-ends : evaluate triangle 3 3 0 ≡ record {
  modules = record { status = evaluated; dfs_index = 0; dfs_ancestor_index = 0 } ∷ record { status = evaluated; dfs_index = 1; dfs_ancestor_index = 0 } ∷ record { status = evaluated; dfs_index = 2; dfs_ancestor_index = 0 } ∷ [];
  stack = [];
  index = 3;
  executed = 2 ∷ 1 ∷ 0 ∷ [];
}
unfolding evaluate inner_module_evaluation pop
triangle-ends = refl
