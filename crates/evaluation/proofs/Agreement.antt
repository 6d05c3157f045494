-- Two successor functions that agree on every place that is reached give the same post-order and the same evaluation.
-- Assumes nothing.
use mathlib.Core.Path.{◌≡◌, refl, sym, ap, ◌∙◌}
use mathlib.Core.Logic.{⊎_elim}
use mathlib.Core.Bool.{Bool, false, cond}
use mathlib.Core.List.{List, foldl, Memᴰ}
use Prim.Native.Nat.{ℕ, zero, suc}
use lib.ListN.{length}
use Rattle.lists.proofs.Laws.{both}
use Rattle.lists.proofs.Maps.{fold-cong}
use Rattle.walk.specs.Walk.{St, fresh, enter, leave, visit, walk, snoc, unmet, post_order}
use Rattle.walk.specs.Reach.{Reach, here, step, ReachAny}
use Rattle.walk.proofs.Visits.{visit-new, visit-old}
use Rattle.evaluation.specs.Evaluation.{State, begin, lower, execute, finish, require, inner_module_evaluation, start, evaluate}
use Rattle.evaluation.proofs.Steps.{unbegun}
use Rattle.evaluation.proofs.Runs.{inner-new, inner-old}

module _ (succ succ' : ℕ → List ℕ) where
  -- they agree on all that m leads to
  pub Agree : ℕ → Type 0
  Agree m = (x : ℕ) → Reach succ m x → succ x ≡ succ' x

  agree-next : (m y : ℕ) → Agree m → Memᴰ y (succ m) → Agree y
  unfolding Agree
  agree-next m y a i x p = a x (step i p)

  visit-agrees : (gate : ℕ → Bool) {A : Type 0} (act : A → ℕ → A) (k : ℕ) (s : St A) (m : ℕ) → Agree m → visit succ gate act k s m ≡ visit succ' gate act k s m
  unfolding visit Agree
  visit-agrees gate {A} act zero s m a = refl
  visit-agrees gate {A} act (suc k) s m a =
      ⊎_elim
      (λ e.
      visit-new succ gate act k s m e
      ∙ ap (leave act m) (fold-cong (visit succ gate act k) (visit succ' gate act k) (succ m) (λ y i t. visit-agrees gate act k t y (agree-next m y a i)) (enter m s))
      ∙ ap (λ (ys : List ℕ). leave act m (foldl (visit succ' gate act k) (enter m s) ys)) (a m (here refl))
      ∙ sym (visit-new succ' gate act k s m e))
      (λ e. visit-old succ gate act (suc k) s m e ∙ sym (visit-old succ' gate act (suc k) s m e))
      (both (cond (gate m) (fresh s m) false))

  pub order-agrees : (gate : ℕ → Bool) (n : ℕ) (roots : List ℕ) → ((x : ℕ) → ReachAny succ roots x → succ x ≡ succ' x) → post_order succ gate n roots ≡ post_order succ' gate n roots
  unfolding post_order walk ReachAny Agree
  order-agrees gate n roots a =
      ap (λ (t : St (List ℕ)). t.made)
      (fold-cong (visit succ gate snoc (length (unmet n).marks)) (visit succ' gate snoc (length (unmet n).marks)) roots
      (λ y i s. visit-agrees gate snoc (length (unmet n).marks) s y (λ x p. a x (y, i, p))) (unmet n))

  inner-agrees : (k : ℕ) (s : State) (m : ℕ) → Agree m → inner_module_evaluation succ k s m ≡ inner_module_evaluation succ' k s m
  unfolding inner_module_evaluation Agree
  inner-agrees zero s m a = refl
  inner-agrees (suc k) s m a =
      ⊎_elim
      (λ e.
      inner-new succ k s m e
      ∙ ap (λ (t : State). finish m (execute m t)) (fold-cong (require (inner_module_evaluation succ k) m) (require (inner_module_evaluation succ' k) m) (succ m) (λ y i t. ap (lower m y) (inner-agrees k t y (agree-next m y a i))) (begin m s))
      ∙ ap (λ (ys : List ℕ). finish m (execute m (foldl (require (inner_module_evaluation succ' k) m) (begin m s) ys))) (a m (here refl))
      ∙ sym (inner-new succ' k s m e))
      (λ e. inner-old succ (suc k) s m e ∙ sym (inner-old succ' (suc k) s m e))
      (both (unbegun s m))

  pub evaluation-agrees : (k n root : ℕ) → ((x : ℕ) → Reach succ root x → succ x ≡ succ' x) → evaluate succ k n root ≡ evaluate succ' k n root
  unfolding evaluate Agree
  evaluation-agrees k n root a = inner-agrees k (start n) root a
