-- Reach, connection, components and labels over any graph whose edges lead to places below n: what they are in terms of paths.
-- Assumes nothing.
use Rattle.std.specs.Prelude.{◌≡◌, ℕ, ◌<◌, ◌≤◌, Bool, true, false, not, eqb, ◌⊎◌, List, [], ◌∷◌}
use mathlib.Core.Path.{refl, sym, ap, subst, ◌∙◌}
use mathlib.Core.Logic.{inl, inr, ⊎_elim}
use mathlib.Core.List.Memᴰ
use mathlib.Core.List.{Memᴰ}
use native.Mathlib.Omega.{arith}
use native.Mathlib.Decide.{ℕ_discrete}
use borrow.Author.Tests.{eqb-false, eq-eqb, ne_eqb}
use Rattle.lists.specs.Words.{up_to, any, elem}
use Rattle.lists.proofs.Laws.{both, not-true, and_parts, and-join, or_parts, or_left, or_right, iff-eq, any-mem, mem-any, mem-keep, keep-mem, keep-cong, elem_mem, mem-elem, mem-up_to, up_to-mem}
use Rattle.walk.specs.Walk.{everywhere, post_order}
use Rattle.walk.specs.Reach.{Reach, here, step, Reach⁺, ReachAny}
use Rattle.walk.proofs.Orders.{reach-trans, all-reach, reach-all}
use Rattle.tables.specs.Project.{missing}
use Rattle.tables.specs.Readings.{first_of}
use Rattle.strong_connection.specs.Cycles.{reached_from, connected, component, cyclic, label, reaches_cycle}
use Rattle.strong_connection.proofs.Firsts.{first-keep}

module _ (n : ℕ) (succ : ℕ → List ℕ) (inside : (m y : ℕ) → m < n → Memᴰ y (succ m) → y < n) where
  -- a path from a place below n stays below n
  pub reach-in : {c d : ℕ} → c < n → Reach succ c d → d < n
  reach-in l (here e) = omega arith
  reach-in l (step {m} {y} s p) = reach-in (inside m y l s) p

  root_in : (c : ℕ) → c < n → (r : ℕ) → Memᴰ r (c ∷ []) → r < n
  root_in c l r h = rw (Memᴰ.eq_of_singleton h) l

  -- the reached places are those that paths lead to

  pub reached-reach : (c d : ℕ) → c < n → elem d (reached_from n succ c) ≡ true → Reach succ c d
  unfolding reached_from ReachAny
  reached-reach c d l e =
      let a = all-reach succ n inside (c ∷ []) (root_in c l) d (elem_mem d (post_order succ everywhere n (c ∷ [])) e) in
      subst (λ (r : ℕ). Reach succ r d) (Memᴰ.eq_of_singleton a.1) a.2

  pub reach-reached : (c d : ℕ) → c < n → Reach succ c d → elem d (reached_from n succ c) ≡ true
  unfolding reached_from ReachAny
  reach-reached c d l p = mem-elem d (post_order succ everywhere n (c ∷ [])) (reach-all succ n inside (c ∷ []) (root_in c l) d (c, Memᴰ.head refl, p))

  -- connection is paths both ways

  pub connected-reach : (c d : ℕ) → c < n → connected n succ c d ≡ true → Reach succ c d × Reach succ d c
  unfolding connected
  connected-reach c d l e =
      let b = and_parts (elem d (reached_from n succ c)) (elem c (reached_from n succ d)) e in
      let p = reached-reach c d l b.0 in
      (p, reached-reach d c (reach-in l p) b.1)

  pub reach-connected : (c d : ℕ) → c < n → Reach succ c d → Reach succ d c → connected n succ c d ≡ true
  unfolding connected
  reach-connected c d l p q =
      and-join (elem d (reached_from n succ c)) (elem c (reached_from n succ d)) (reach-reached c d l p) (reach-reached d c (reach-in l p) q)

  pub connected-in : (c d : ℕ) → c < n → connected n succ c d ≡ true → d < n
  connected-in c d l e = reach-in l (connected-reach c d l e).0

  pub connected-self : (c : ℕ) → c < n → connected n succ c c ≡ true
  connected-self c l = reach-connected c c l (here refl) (here refl)

  pub connected-sym : (c d : ℕ) → c < n → connected n succ c d ≡ true → connected n succ d c ≡ true
  connected-sym c d l e = let r = connected-reach c d l e in reach-connected d c (reach-in l r.0) r.1 r.0

  pub connected-trans : (a b c : ℕ) → a < n → connected n succ a b ≡ true → connected n succ b c ≡ true → connected n succ a c ≡ true
  connected-trans a b c l e f =
      let r = connected-reach a b l e in
      let s = connected-reach b c (reach-in l r.0) f in
      reach-connected a c l (reach-trans succ r.0 s.0) (reach-trans succ s.1 r.1)

  -- components

  pub component-mem : (c d : ℕ) → c < n → connected n succ c d ≡ true → Memᴰ d (component n succ c)
  unfolding component
  component-mem c d l e = keep-mem (connected n succ c) (up_to n) (up_to-mem (connected-in c d l e)) e

  pub mem-component : (c d : ℕ) → Memᴰ d (component n succ c) → (d < n) × (connected n succ c d ≡ true)
  unfolding component
  mem-component c d h = let r = mem-keep (connected n succ c) (up_to n) h in (mem-up_to r.0, r.1)

  -- connected places have one component
  pub component-same : (c d : ℕ) → c < n → connected n succ c d ≡ true → component n succ c ≡ component n succ d
  unfolding component
  component-same c d l e =
      let back = connected-sym c d l e in
      let m = connected-in c d l e in
      keep-cong (connected n succ c) (connected n succ d) (up_to n)
      (λ x h. iff-eq (connected n succ c x) (connected n succ d x) (λ f. connected-trans d c x m back f) (λ f. connected-trans c d x l e f))

  -- the lowest row of a component
  abbrev pub lowest : ℕ → ℕ
  lowest c = first_of (component n succ c)

  pub lowest-least : (c d : ℕ) → c < n → connected n succ c d ≡ true → (connected n succ c (lowest c) ≡ true) × (lowest c ≤ d)
  unfolding component
  lowest-least c d l e =
      let m = connected-in c d l e in
      let r = first-keep (connected n succ c) 0 n d (omega arith) (omega arith) e in
      (r.0, r.1)

  pub lowest-connected : (c : ℕ) → c < n → connected n succ c (lowest c) ≡ true
  lowest-connected c l = (lowest-least c c l (connected-self c l)).0

  pub lowest-in : (c : ℕ) → c < n → lowest c < n
  lowest-in c l = connected-in c (lowest c) l (lowest-connected c l)

  pub lowest-same : (c d : ℕ) → c < n → connected n succ c d ≡ true → lowest c ≡ lowest d
  lowest-same c d l e = ap first_of (component-same c d l e)

  -- those of one lowest row are connected
  pub same-lowest : (c d : ℕ) → c < n → d < n → lowest c ≡ lowest d → connected n succ c d ≡ true
  same-lowest c d l m e =
      connected-trans c (lowest c) d l (lowest-connected c l)
      (subst (λ (x : ℕ). connected n succ x d ≡ true) (sym e) (connected-sym d (lowest d) m (lowest-connected d m)))

  -- cyclic places

  abbrev other : ℕ → ℕ → Bool
  other c d = not (eqb d c)

  pub cyclic-cases : (c : ℕ) → cyclic n succ c ≡ true → ((d : ℕ) × (d ≡ c → ⊥) × (connected n succ c d ≡ true)) ⊎ Memᴰ c (succ c)
  unfolding cyclic
  cyclic-cases c e =
      ⊎_elim
      (λ a. let r = any-mem (other c) (component n succ c) a in inl (r.0, eqb-false r.0 c (not-true (eqb r.0 c) r.2), (mem-component c r.0 r.1).1))
      (λ b. inr (elem_mem c (succ c) b))
      (or_parts (any (other c) (component n succ c)) (elem c (succ c)) e)

  pub other-cyclic : (c d : ℕ) → c < n → (d ≡ c → ⊥) → connected n succ c d ≡ true → cyclic n succ c ≡ true
  unfolding cyclic
  other-cyclic c d l k e =
      or_left (any (other c) (component n succ c)) (elem c (succ c))
      (mem-any (other c) (component n succ c) (component-mem c d l e) (ap not (ne_eqb d c k)))

  pub edge-cyclic : (c : ℕ) → Memᴰ c (succ c) → cyclic n succ c ≡ true
  unfolding cyclic
  edge-cyclic c h = or_right (any (other c) (component n succ c)) (elem c (succ c)) (mem-elem c (succ c) h)

  -- a component is cyclic as a whole
  pub cyclic-same : (c d : ℕ) → c < n → connected n succ c d ≡ true → cyclic n succ c ≡ true → cyclic n succ d ≡ true
  cyclic-same c d l e h = go (ℕ_discrete d c)
    where
      go : Dec (d ≡ c) → cyclic n succ d ≡ true
      go (yes q) = ap (cyclic n succ) q ∙ h
      go (no k) = other-cyclic d c (connected-in c d l e) (λ q. k (sym q)) (connected-sym c d l e)

  -- a place is cyclic exactly if a path of one or more steps leads from it to itself

  pub cyclic-reach : (c : ℕ) → c < n → cyclic n succ c ≡ true → Reach⁺ succ c c
  unfolding Reach⁺
  cyclic-reach c l e = ⊎_elim (λ r. let p = connected-reach c r.0 l r.2 in first r.1 p.0 p.1) (λ h. (c, h, here refl)) (cyclic-cases c e)
    where
      first : {d : ℕ} → (d ≡ c → ⊥) → Reach succ c d → Reach succ d c → Reach⁺ succ c c
      first k (here q) b = absurd (k q)
      first k (step {y = y} s p) b = (y, s, reach-trans succ p b)

  pub reach-cyclic : (c : ℕ) → c < n → Reach⁺ succ c c → cyclic n succ c ≡ true
  unfolding Reach⁺
  reach-cyclic c l p = go (ℕ_discrete p.0 c)
    where
      go : Dec (p.0 ≡ c) → cyclic n succ c ≡ true
      go (yes q) = edge-cyclic c (subst (λ (y : ℕ). Memᴰ y (succ c)) q p.1)
      go (no k) = other-cyclic c p.0 l k (reach-connected c p.0 l (step p.1 (here refl)) p.2)

  -- labels

  pub label-cyclic : (c : ℕ) → cyclic n succ c ≡ true → label n succ c ≡ lowest c
  unfolding label
  label-cyclic c e = rw e

  pub label-none : (c : ℕ) → cyclic n succ c ≡ false → label n succ c ≡ missing
  unfolding label
  label-none c e = rw e

  module _ (few : n ≤ missing) where
    -- a label below the mark is that of a cyclic place
    pub label-test : (c : ℕ) → c < n → not (eqb (label n succ c) missing) ≡ cyclic n succ c
    label-test c l =
        ⊎_elim
        (λ e. ap (λ (x : ℕ). not (eqb x missing)) (label-cyclic c e) ∙ ap not (ne_eqb (lowest c) missing (λ q. absurd (omega (arith, lowest-in c l)))) ∙ sym e)
        (λ e. ap (λ (x : ℕ). not (eqb x missing)) (label-none c e) ∙ ap not (eq-eqb missing missing refl) ∙ sym e)
        (both (cyclic n succ c))

    -- two places have the same label below the mark exactly if they are connected and cyclic

    pub same-label : (c d : ℕ) → c < n → d < n → label n succ c ≡ label n succ d → (label n succ c ≡ missing → ⊥) → (connected n succ c d ≡ true) × (cyclic n succ c ≡ true)
    same-label c d l m e k =
        let a : cyclic n succ c ≡ true = ⊎_elim (λ q. q) (λ q. absurd (k (label-none c q))) (both (cyclic n succ c)) in
        let b : cyclic n succ d ≡ true = ⊎_elim (λ q. q) (λ q. absurd (k (e ∙ label-none d q))) (both (cyclic n succ d)) in
        (same-lowest c d l m (sym (label-cyclic c a) ∙ e ∙ label-cyclic d b), a)

    pub label_same : (c d : ℕ) → c < n → connected n succ c d ≡ true → cyclic n succ c ≡ true → (label n succ c ≡ label n succ d) × (label n succ c ≡ missing → ⊥)
    label_same c d l e h =
        let a = label-cyclic c h in
        (a ∙ lowest-same c d l e ∙ sym (label-cyclic d (cyclic-same c d l e h)), λ q. absurd (omega (arith, lowest-in c l)))

  -- chunk reach

  pub cycle-reach : (c : ℕ) → c < n → reaches_cycle n succ c ≡ true → (d : ℕ) × Reach succ c d × Reach⁺ succ d d
  unfolding reaches_cycle
  cycle-reach c l e =
      let r = any-mem (cyclic n succ) (reached_from n succ c) e in
      let p = reached-reach c r.0 l (mem-elem r.0 (reached_from n succ c) r.1) in
      (r.0, p, cyclic-reach r.0 (reach-in l p) r.2)

  pub reach-cycle : (c d : ℕ) → c < n → Reach succ c d → Reach⁺ succ d d → reaches_cycle n succ c ≡ true
  unfolding reaches_cycle
  reach-cycle c d l p q =
      mem-any (cyclic n succ) (reached_from n succ c) (elem_mem d (reached_from n succ c) (reach-reached c d l p)) (reach-cyclic d (reach-in l p) q)
