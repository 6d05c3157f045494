-- The assertions of InnerModuleEvaluation hold: 11.c.ii, that just the EVALUATING modules are on the stack; 14, that module is on it once; and
-- 15, that module.[[DFSAncestorIndex]] ≤ module.[[DFSIndex]].
-- Assumes nothing.
use mathlib.Core.Path.{◌≡◌, sym, ap, ◌∙◌}
use mathlib.Core.Logic.{⊎_elim}
use mathlib.Core.Bool.{true, true≢false}
use mathlib.Core.List.Memᴰ
use mathlib.Core.List.{List, ◌∷◌, Memᴰ}
use Prim.Native.Nat.{ℕ, ◌≤◌}
use native.Mathlib.Omega.{arith}
use native.Mathlib.Decide.{ℕ_discrete}
use Rattle.lists.specs.Words.{Distinct}
use Rattle.lists.proofs.Laws.{both, distinct_append}
use Rattle.evaluation.specs.Evaluation.{evaluating, Module, State, module_at, begin, inner_module_evaluation, start}
use Rattle.evaluation.proofs.Steps.{is_linked, unbegun, begin-same, begin-other}
use Rattle.evaluation.proofs.Runs.{Run, inside, inner-run, inside-run, going, going-index, going-ancestor}
use Rattle.evaluation.proofs.PostOrder.{start-still}

-- just the EVALUATING modules are on the stack, each once
pub record Sound (s : State) : Type 0 where
  pub on_stack : (x : ℕ) → (module_at s x).status ≡ evaluating → Memᴰ x s.stack
  pub stacked : (x : ℕ) → Memᴰ x s.stack → (module_at s x).status ≡ evaluating
  pub once : Distinct s.stack

pub start-sound : (n : ℕ) → Sound (start n)
unfolding Distinct
start-sound n = record { on_stack = λ x e. absurd (start-still n x e); stacked = λ x h. absurd (Memᴰ.not-nil h); once = tt }

pub begin-sound : (s : State) (m : ℕ) → unbegun s m ≡ true → Sound s → Sound (begin m s)
unfolding Distinct
begin-sound s m f a = record {
  on_stack = λ x e. go x e (ℕ_discrete x m);
  stacked = λ x h. ⊎_elim (λ q. rw q now) (λ i. status x (λ q. new (rw q at i)) ∙ a.stacked x i) (Memᴰ.cases_cons h);
  once = (new, a.once);
}
  where
    now : (module_at (begin m s) m).status ≡ evaluating
    now = ap (λ (n : Module). n.status) (begin-same s m f)

    status : (x : ℕ) → (x ≡ m → ⊥) → (module_at (begin m s) x).status ≡ (module_at s x).status
    status x n = ap (λ (n : Module). n.status) (begin-other s m x n)

    new : Memᴰ m s.stack → ⊥
    new i = true≢false (sym f ∙ ap is_linked (a.stacked m i))

    go : (x : ℕ) → (module_at (begin m s) x).status ≡ evaluating → Dec (x ≡ m) → Memᴰ x (m ∷ s.stack)
    go x e (yes q) = Memᴰ.head q
    go x e (no n) = Memᴰ.tail (a.on_stack x (sym (status x n) ∙ e))

run_sound : {s t : State} → Run s t → Sound s → Sound t
run_sound {s} {t} r a = record {
  on_stack = λ x e.
      rw r.stacks
      (⊎_elim (λ f. Memᴰ.append_left s.stack (r.all x f e)) (λ f. Memᴰ.append_right r.added (a.on_stack x (sym (r.kept x f) ∙ e))) (both (unbegun s x)));
  stacked = λ x h.
      ⊎_elim (λ i. (r.new x i).1) (λ i. let e = a.stacked x i in r.kept x (ap is_linked e) ∙ e) (Memᴰ.append_cases r.added (rw r.stacks at h));
  once = rw r.stacks (distinct_append r.added s.stack r.distinct a.once (λ x i j. true≢false (sym (r.new x i).0 ∙ ap is_linked (a.stacked x j))));
}

module _ (requested : ℕ → List ℕ) (k : ℕ) (s : State) (m : ℕ) where
  -- 11.c.ii: every call keeps it
  pub assertion-11-c-ii : Sound s → Sound (inner_module_evaluation requested k s m)
  assertion-11-c-ii = run_sound (inner-run requested k s m)

  module _ (f : unbegun s m ≡ true) where
    -- 14, where the requested modules of m are done
    pub assertion-14 : Sound s → Memᴰ m (inside requested k s m).stack × Distinct (inside requested k s m).stack
    assertion-14 a =
        let b = run_sound (inside-run requested k s m) (begin-sound s m f a) in
        (b.on_stack m (going m s (inside requested k s m) f (inside-run requested k s m)), b.once)

    -- 15, there too
    pub assertion-15 : (module_at (inside requested k s m) m).dfs_ancestor_index ≤ (module_at (inside requested k s m) m).dfs_index
    assertion-15 =
        let r = inside-run requested k s m in
        let t : State = inside requested k s m in
        omega (arith, going-index m s t f r, going-ancestor m s t f r)
