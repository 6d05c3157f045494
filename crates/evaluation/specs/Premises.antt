-- 01, expected order of an entry: "ECMA-262's module evaluation gives this list where all reached modules are normal, included and without
-- top-level await, and all records are kind 0 with a target". The evaluation of a project, and those premises. The tables know no await.
-- Assumes nothing.
use Rattle.std.specs.Prelude.{◌≡◌, true, ℕ, get_or}
use mathlib.Core.List.{List, [], ◌∷◌, map, Memᴰ}
use Rattle.lists.specs.Words.{keep}
use Rattle.walk.specs.Walk.{everywhere, post_order}
use Rattle.walk.specs.Reach.{Reach}
use Rattle.tables.specs.Project.{Project, missing}
use Rattle.tables.specs.Readings.{modules, is_normal, flagged, rows_of, is_import, normal_target, targets_of}
use Rattle.evaluation.specs.Evaluation.{State, evaluated, module_at, evaluate}

-- the modules that a module requests: the targets of its records in row order, repeats and all
unfoldable pub requested_of : Project → ℕ → List ℕ
requested_of p m = map (λ (row : ℕ). get_or p.record_target row 0) (rows_of p.record_module m)

-- Evaluate(), of a module of the project
abbrev pub evaluate_from : Project → ℕ → ℕ → State
evaluate_from p k root = evaluate (requested_of p) k (modules p) root

-- "reached": by records of whatever kind
abbrev pub Reached : Project → ℕ → ℕ → Type 0
Reached p root x = Reach (requested_of p) root x

pub record Premises (p : Project) (root : ℕ) : Type 0 where
  -- "all reached modules are normal, included"
  pub normal : (x : ℕ) → Reached p root x → is_normal p.normal x ≡ true
  pub included : (x : ℕ) → Reached p root x → flagged p.included x ≡ true
  -- "all records are kind 0 with a target"
  pub kinds : (x row : ℕ) → Reached p root x → Memᴰ row (rows_of p.record_module x) → get_or p.record_kind row 0 ≡ 0
  pub targets : (x row : ℕ) → Reached p root x → Memᴰ row (rows_of p.record_module x) → get_or p.record_target row 0 ≡ missing → ⊥

-- what then holds: the executed modules, in order, are the expected order, and at the end every reached module is EVALUATED and the stack is empty
pub record GivesExpectedOrder (p : Project) (root k : ℕ) : Type 0 where
  pub executes : (evaluate_from p k root).executed
      ≡ keep (flagged p.included) (post_order (targets_of is_import normal_target p.normal p.record_module p.record_kind p.record_target) everywhere (modules p) (root ∷ []))
  pub settles : (x : ℕ) → Reached p root x → (module_at (evaluate_from p k root) x).status ≡ evaluated
  pub empties : (evaluate_from p k root).stack ≡ []
