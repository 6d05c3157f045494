-- Visits that a gate holds back are visits without one, over the successors that pass: the gate goes into the successors. And visits over successors that
-- agree on the places that there are make the same.
-- Assumes nothing.
use Rattle.std.specs.Prelude.{◌≡◌, ℕ, zero, suc, ◌<◌, Bool, true, cond, List, [], ◌∷◌, length}
use mathlib.Core.Path.{refl, sym, ap, ◌∙◌}
use mathlib.Core.Logic.{⊎_elim}
use mathlib.Core.List.{foldl}
use native.Mathlib.Omega.{arith}
use lib.ListN.{length-set, length-replicate}
use Rattle.lists.specs.Words.{keep}
use Rattle.lists.proofs.Laws.{both, keep_all}
use Rattle.walk.specs.Walk.{St, fresh, enter, leave, visit, walk, snoc, unmet, everywhere, post_order}
use Rattle.walk.proofs.Visits.{fresh_in, visit-met, visit-stopped, visit-enters, visit-grown}

module _ (succ succ' : ℕ → List ℕ) (gate : ℕ → Bool) {A : Type 0} (act : A → ℕ → A) (n : ℕ) (passing : (m : ℕ) → m < n → succ' m ≡ keep gate (succ m)) where
  abbrev Same : ℕ → Type 0
  Same k = (s : St A) (x : ℕ) → length s.marks ≡ n → gate x ≡ true → visit succ' everywhere act k s x ≡ visit succ gate act k s x

  fold-pruned : (k : ℕ) → Same k → (s : St A) (xs : List ℕ) → length s.marks ≡ n → foldl (visit succ' everywhere act k) s (keep gate xs) ≡ foldl (visit succ gate act k) s xs
  fold-pruned k h s [] l = refl
  fold-pruned k h s (x ∷ xs) l =
      ⊎_elim
      (λ g.
      ap (λ (b : Bool). foldl (visit succ' everywhere act k) s (cond b (x ∷ keep gate xs) (keep gate xs))) g
      ∙ ap (λ (t : St A). foldl (visit succ' everywhere act k) t (keep gate xs)) (h s x l g)
      ∙ fold-pruned k h (visit succ gate act k s x) xs ((visit-grown succ gate act k s x).len ∙ l))
      (λ g.
      ap (λ (b : Bool). foldl (visit succ' everywhere act k) s (cond b (x ∷ keep gate xs) (keep gate xs))) g
      ∙ fold-pruned k h s xs l
      ∙ ap (λ (t : St A). foldl (visit succ gate act k) t xs) (sym (visit-stopped succ gate act k s x g)))
      (both (gate x))

  pub visit-pruned : (k : ℕ) (s : St A) (x : ℕ) → length s.marks ≡ n → gate x ≡ true → visit succ' everywhere act k s x ≡ visit succ gate act k s x
  unfolding visit
  visit-pruned zero s x l g = refl
  visit-pruned (suc k) s x l g =
      ⊎_elim
      (λ e.
      let there : x < n = omega (arith, l, (fresh_in s.marks x e).0) in
      visit-enters succ' everywhere act k s x refl e
      ∙ ap (leave act x) (ap (foldl (visit succ' everywhere act k) (enter x s)) (passing x there) ∙ fold-pruned k (visit-pruned k) (enter x s) (succ x) (length-set s.marks x 1 ∙ l))
      ∙ sym (visit-enters succ gate act k s x g e))
      (λ e. visit-met succ' everywhere act (suc k) s x e ∙ sym (visit-met succ gate act (suc k) s x e))
      (both (fresh s x))

  pub visits-pruned : (k : ℕ) (s : St A) (xs : List ℕ) → length s.marks ≡ n → foldl (visit succ' everywhere act k) s (keep gate xs) ≡ foldl (visit succ gate act k) s xs
  visits-pruned k = fold-pruned k (visit-pruned k)

-- successors that agree on n places
module _ (succ succ' : ℕ → List ℕ) (n : ℕ) (agree : (m : ℕ) → m < n → succ' m ≡ succ m) where
  all_pass : (xs : List ℕ) → keep everywhere xs ≡ xs
  all_pass xs = keep_all everywhere xs (λ x h. refl)

  pub walk_same : {A : Type 0} (act : A → ℕ → A) (s : St A) (xs : List ℕ) → length s.marks ≡ n → walk succ' everywhere act s xs ≡ walk succ everywhere act s xs
  unfolding walk
  walk_same {A} act s xs l =
      ap (foldl (visit succ' everywhere act (length s.marks)) s) (sym (all_pass xs))
      ∙ visits-pruned succ succ' everywhere act n (λ m h. agree m h ∙ sym (all_pass (succ m))) (length s.marks) s xs l

  pub order_same : (roots : List ℕ) → post_order succ' everywhere n roots ≡ post_order succ everywhere n roots
  unfolding post_order
  order_same roots = ap (λ (s : St (List ℕ)). s.made) (walk_same snoc (unmet n) roots (length-replicate n 0))
