-- Module evaluation executes the modules in the post-order of the walk, leaves the stack empty, and leaves every reached module EVALUATED.
-- Assumes nothing.
use mathlib.Core.Path.{◌≡◌, refl, sym, ap, ◌∙◌}
use mathlib.Core.Logic.{⊎_elim}
use mathlib.Core.Bool.{true, false}
use mathlib.Core.List.Memᴰ
use mathlib.Core.List.{List, [], ◌∷◌, ◌++◌, foldl, append-nil}
use Prim.Native.Nat.{ℕ, zero, suc, ◌≤◌, ◌<◌}
use native.Mathlib.Decide.{ℕ_discrete}
use native.Mathlib.Omega.{arith}
use lib.ListN.{get_or, replicate}
use lib.Seq.{get_or-set_other}
use borrow.Author.Tests.{lt-ltb}
use Rattle.lists.specs.Words.{is_zero}
use Rattle.lists.proofs.Laws.{both, keep-mem}
use Rattle.walk.specs.Walk.{St, fresh, enter, leave, visit, walk, snoc, unmet, everywhere, post_order}
use Rattle.walk.specs.Reach.{Reach, here, step, ReachAny, passing, through}
use Rattle.walk.proofs.Visits.{set_self, zeros-replicate, visit-new, visit-old, walk-fuel}
use Rattle.walk.proofs.Orders.{order-met, reach-order}
use Rattle.evaluation.specs.Evaluation.{evaluating, evaluated, Module, State, linked_module, no_module, module_at, begin, execute, finish, require, inner_module_evaluation, start, evaluate}
use Rattle.evaluation.proofs.Steps.{is_linked, unbegun, evaluated-is, settled-not, begin-same, begin-other, Lowered, lowers}
use Rattle.evaluation.proofs.Runs.{inside, inner-new, inner-old, inner-run, inside-run, finish-unbegun, finish-executed, finish-root}

-- a state of the evaluation and one of the walk: the same modules have begun, and what is executed is what is listed
pub record Alike (s : State) (w : St (List ℕ)) : Type 0 where
  pub begun : (x : ℕ) → unbegun s x ≡ fresh w x
  pub lists : s.executed ≡ w.made

begin-alike : (m : ℕ) (s : State) (w : St (List ℕ)) → unbegun s m ≡ true → Alike s w → Alike (begin m s) (enter m w)
begin-alike m s w f a = record { begun = λ x. go x (ℕ_discrete x m); lists = a.lists }
  where
    go : (x : ℕ) → Dec (x ≡ m) → unbegun (begin m s) x ≡ fresh (enter m w) x
    go x (yes p) = rw p (ap (λ (n : Module). is_linked n.status) (begin-same s m f) ∙ sym (set_self w.marks m))
    go x (no n) = ap (λ (n : Module). is_linked n.status) (begin-other s m x n) ∙ a.begun x ∙ sym (ap is_zero (get_or-set_other w.marks m x 1 1 n))

lower-alike : {s t : State} {w : St (List ℕ)} → Lowered s t → Alike s w → Alike t w
lower-alike l a = record { begun = λ x. ap is_linked (l.status-same x) ∙ a.begun x; lists = l.executed-same ∙ a.lists }

fold-alike : (inner : State → ℕ → State) (f : St (List ℕ) → ℕ → St (List ℕ)) → ((s : State) (w : St (List ℕ)) (r : ℕ) → Alike s w → Alike (inner s r) (f w r))
    → (m : ℕ) (s : State) (w : St (List ℕ)) (xs : List ℕ) → Alike s w → Alike (foldl (require inner m) s xs) (foldl f w xs)
fold-alike inner f h m s w [] a = a
fold-alike inner f h m s w (x ∷ xs) a = fold-alike inner f h m (require inner m s x) (f w x) xs (lower-alike (lowers m x (inner s x)) (h s w x a))

module _ (requested : ℕ → List ℕ) where
  -- a call does to the one what a visit with the same fuel does to the other
  inner-alike : (k : ℕ) (s : State) (w : St (List ℕ)) (m : ℕ) → Alike s w → Alike (inner_module_evaluation requested k s m) (visit requested everywhere snoc k w m)
  unfolding inner_module_evaluation visit
  inner-alike zero s w m a = a
  inner-alike (suc k) s w m a =
      ⊎_elim
      (λ e. rw (inner-new requested k s m e, visit-new requested everywhere snoc k w m (sym (a.begun m) ∙ e)) (frame e (fold-alike (inner_module_evaluation requested k) (visit requested everywhere snoc k) (inner-alike k) m (begin m s) (enter m w) (requested m) (begin-alike m s w e a))))
      (λ e. rw (inner-old requested (suc k) s m e, visit-old requested everywhere snoc (suc k) w m (sym (a.begun m) ∙ e)) a)
      (both (unbegun s m))
    where
      frame : unbegun s m ≡ true → {v : St (List ℕ)} → Alike (inside requested k s m) v → Alike (finish m (execute m (inside requested k s m))) (leave snoc m v)
      frame e b = record {
        begun = λ x. finish-unbegun m s (inside requested k s m) e (inside-run requested k s m) x ∙ b.begun x;
        lists = finish-executed m s (inside requested k s m) e (inside-run requested k s m) ∙ ap (λ (l : List ℕ). l ++ (m ∷ [])) b.lists;
      }

-- a path among places below n
below-path : (succ : ℕ → List ℕ) (n : ℕ) {r x : ℕ} → ((y : ℕ) → Reach succ r y → y < n) → Reach succ r x → Reach (through succ everywhere n) r x
below-path succ n below (here e) = here e
below-path succ n below (step {m} {y} s p) =
    step (keep-mem (passing everywhere n) (succ m) s (lt-ltb y n (below y (step s (here refl))))) (below-path succ n (λ z q. below z (step s q)) p)

-- before evaluation: the same as before a walk, and nothing is EVALUATING
start-begun : (n x : ℕ) → is_linked (get_or (replicate n linked_module) x no_module).status ≡ is_zero (get_or (replicate n 0) x 1)
start-begun zero x = refl
start-begun (suc n) zero = refl
start-begun (suc n) (suc x) = start-begun n x

start-alike : (n : ℕ) → Alike (start n) (unmet n)
start-alike n = record { begun = start-begun n; lists = refl }

pub start-still : (n x : ℕ) → (get_or (replicate n linked_module) x no_module).status ≡ evaluating → ⊥
start-still zero x e = settled-not refl e
start-still (suc n) zero e = let z : ◌≡◌ {A = ℕ} 0 1 = cc in omega arith
start-still (suc n) (suc x) e = start-still n x e

module _ (requested : ℕ → List ℕ) (n root : ℕ) where
  -- 10.d of Evaluate: stack is empty
  pub evaluation-empties-the-stack : (k : ℕ) → (evaluate requested k n root).stack ≡ []
  unfolding evaluate inner_module_evaluation
  evaluation-empties-the-stack zero = refl
  evaluation-empties-the-stack (suc k) =
      ⊎_elim
      (λ e. ap (λ (t : State). t.stack) (inner-new requested k (start n) root e) ∙ finish-root root (start n) (inside requested k (start n) root) e (inside-run requested k (start n) root) refl)
      (λ e. ap (λ (t : State). t.stack) (inner-old requested (suc k) (start n) root e))
      (both (unbegun (start n) root))

  -- so no module is left EVALUATING
  none-evaluating : (k x : ℕ) → (module_at (evaluate requested k n root) x).status ≡ evaluating → ⊥
  unfolding evaluate
  none-evaluating k x e =
      let r = inner-run requested k (start n) root in
      let empty : r.added ≡ [] = sym (append-nil r.added) ∙ sym r.stacks ∙ evaluation-empties-the-stack k in
      ⊎_elim
      (λ f. Memᴰ.not-nil (rw empty at (r.all x f e)))
      (λ f. start-still n x (sym (r.kept x f) ∙ e))
      (both (unbegun (start n) x))

  module _ (k : ℕ) (enough : n ≤ k) where
    ends : State
    ends = evaluate requested k n root

    walked : walk requested everywhere snoc (unmet n) (root ∷ []) ≡ visit requested everywhere snoc k (unmet n) root
    walked = walk-fuel requested everywhere snoc k (unmet n) (root ∷ []) (omega (arith, zeros-replicate n))

    ends-alike : Alike ends (walk requested everywhere snoc (unmet n) (root ∷ []))
    unfolding ends evaluate
    ends-alike = rw walked (inner-alike requested k (start n) (unmet n) root (start-alike n))

    -- the executed modules, in order, are the post-order
    pub evaluation-is-post-order : (evaluate requested k n root).executed ≡ post_order requested everywhere n (root ∷ [])
    unfolding ends post_order
    evaluation-is-post-order = ends-alike.lists

    -- where all that is reached is a module, it all ends EVALUATED: the root too, as 10.a of Evaluate asserts
    pub evaluation-settles : ((x : ℕ) → Reach requested root x → x < n) → (x : ℕ) → Reach requested root x → (module_at (evaluate requested k n root) x).status ≡ evaluated
    unfolding ends ReachAny
    evaluation-settles below x p = evaluated-is (module_at ends x).status (ends-alike.begun x ∙ met) (none-evaluating k x)
      where
        met : fresh (walk requested everywhere snoc (unmet n) (root ∷ [])) x ≡ false
        met =
            let first = keep-mem (passing everywhere n) (root ∷ []) (Memᴰ.head refl) (lt-ltb root n (below root (here refl))) in
            (order-met requested everywhere n (root ∷ []) x (reach-order requested everywhere n (root ∷ []) x (root, first, below-path requested n below p))).1
