-- "Module numbers and sorted list", over the columns that they read.
-- Assumes nothing.
use Rattle.std.specs.Prelude.{ℕ, zero, suc, cond, List, [], ◌∷◌, map, length, ◌==◌}
use Rattle.lists.specs.Words.{up_to, keep}
use Rattle.walk.specs.Walk.{post_order, everywhere}
use Rattle.tables.specs.Project.{missing}
use Rattle.tables.specs.Readings.{is_normal, is_static, any_target, targets_of}

-- the number of m where a list is numbered from i, else d
abbrev pub number_in : ℕ → ℕ → ℕ → List ℕ → ℕ
number_in d m i [] = d
number_in d m i (x ∷ xs) = cond (x == m) i (number_in d m (suc i) xs)

module _ (dynamic : ℕ) (normal record_module record_kind record_target : List ℕ) where
  -- the targets "in record order, over kinds 0 and 1, and 2 if dynamic is 1"
  abbrev pub statics_of : ℕ → List ℕ
  statics_of = targets_of (is_static dynamic) any_target normal record_module record_kind record_target

  module _ (runtime : ℕ) (entry : List ℕ) where
    -- each module "after its targets": "the runtime comes first, then the entries in row order"; "one met before is passed"
    unfoldable pub visited : List ℕ
    visited = post_order statics_of everywhere (length normal) (runtime ∷ entry)

    -- the sorted list: externals "aren't listed"
    unfoldable pub sorted : List ℕ
    sorted = keep (is_normal normal) visited

    -- "numbered from 0"; "externals take a number"; "unreached modules hold the mark"
    unfoldable pub numbers : List ℕ
    numbers = map (λ (m : ℕ). number_in missing m zero visited) (up_to (length normal))
