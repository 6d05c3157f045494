-- Listing all that a place leads to, as the loop does.
-- Assumes nothing.
use Rattle.std.specs.Prelude.{◌≡◌, ℕ, ◌+◌, ◌<◌, ◌≤◌, true, ◌⊎◌, List, length, get_or}
use mathlib.Core.Path.{refl, sym, ap, subst, ◌∙◌}
use mathlib.Core.Logic.{inl, inr, ⊎_elim}
use mathlib.Core.List.{Memᴰ}
use native.Mathlib.Decide.{ℕ_discrete}
use native.Mathlib.Omega.{arith}
use Rattle.lists.specs.Words.{has}
use Rattle.lists.proofs.Laws.{mark-in}
use Rattle.walk.specs.Reach.{Reach, here, step, Reach⁺}
use Rattle.walk.proofs.Orders.{reach-next}
use Rattle.request_queue.specs.inner.Growing.{Listing, Listed, among, Grew, Grown, Along, Reached}
use Rattle.request_queue.proofs.Growing.{grown_none, grew-has, grew-on}

-- the first `at` members are followed
module _ (succ : ℕ → List ℕ) (x : ℕ) (q : Listing) where
  pub record Reaching (q' : Listing) (at : ℕ) : Type 0 where
    pub within : at ≤ length q'.list
    pub grew : Grew (Reach⁺ succ x) q q'
    pub first : (y : ℕ) → Memᴰ y (succ x) → has q'.marks y ≡ true
    pub done : (i : ℕ) → i < at → (y : ℕ) → Memᴰ y (succ (get_or q'.list i 0)) → has q'.marks y ≡ true

  pub reaching-start : (q' : Listing) → Listed q.marks q.list → Along succ q.marks → Grown (among (succ x)) q q' → Reaching q' (length q.list)
  unfolding Along Reach⁺
  reaching-start q' l a f = record {
    within = f.grew.more;
    grew = grew-on (λ y b. (y, b, here refl)) (λ y b. inl b) f.grew (grown_none (λ (y : ℕ). has q'.marks y ≡ true) q' (λ y e. e)).grew;
    first = f.all;
    done = λ i b y h.
        let p = l.placed i b in
        let m = get_or q.list i 0 in
        grew-has f.grew y (a m (mark-in (get_or q.marks m 0) (λ z. omega (arith, z, p.1))) y (subst (λ (m : ℕ). Memᴰ y (succ m)) (f.grew.front i b) h));
  }

  module _ (q' : Listing) (at : ℕ) (l : Listed q'.marks q'.list) (g : Reaching q' at) (a : Along succ q.marks) where
    pub reaching-next : at < length q'.list → (q'' : Listing) → Grown (among (succ (get_or q'.list at 0))) q' q'' → Reaching q'' (at + 1)
    unfolding Along Reach⁺
    reaching-next b q'' f = record {
      within = omega (arith, f.grew.more);
      grew = grew-on (λ y b. b) new g.grew f.grew;
      first = λ y b. grew-has f.grew y (g.first y b);
      done = λ i c y h. at_place i (ℕ_discrete i at) c y h;
    }
      where
        node : ℕ
        node = get_or q'.list at 0

        node_in : has q'.marks node ≡ true
        node_in = let p = l.placed at b in mark-in (get_or q'.marks node 0) (λ z. omega (arith, z, p.1))

        new : (y : ℕ) → Memᴰ y (succ node) → (has q'.marks y ≡ true) ⊎ Reach⁺ succ x y
        new y h =
            ⊎_elim (λ o. inl (grew-has g.grew y (a node o y h))) (λ r. inr (r.0, r.1, reach-next succ r.2 h)) (g.grew.only node node_in)

        at_place : (i : ℕ) → Dec (i ≡ at) → i < at + 1 → (y : ℕ) → Memᴰ y (succ (get_or q''.list i 0)) → has q''.marks y ≡ true
        at_place i (yes e) c y h = f.all y (subst (λ (m : ℕ). Memᴰ y (succ m)) (f.grew.front i (omega arith) ∙ ap (λ (j : ℕ). get_or q'.list j 0) e) h)
        at_place i (no k) c y h = grew-has f.grew y (g.done i (omega arith) y (subst (λ (m : ℕ). Memᴰ y (succ m)) (f.grew.front i (omega (arith, g.within))) h))

    pub reaching-end : length q'.list ≤ at → Reached succ x q q'
    unfolding Along Reach⁺
    reaching-end b = record { grown = record { grew = g.grew; all = λ y r. led (g.first r.0 r.1) r.2 }; along = closed }
      where
        closed : (z : ℕ) → has q'.marks z ≡ true → (y : ℕ) → Memᴰ y (succ z) → has q'.marks y ≡ true
        closed z e y h =
            let p = l.listed z e in
            g.done p.0 (omega (arith, p.1)) y (subst (λ (m : ℕ). Memᴰ y (succ m)) (sym p.2) h)

        led : {m y : ℕ} → has q'.marks m ≡ true → Reach succ m y → has q'.marks y ≡ true
        led e (here p) = subst (λ (z : ℕ). has q'.marks z ≡ true) (sym p) e
        led {m} e (step {y = z} h p) = led (closed m e z h) p
