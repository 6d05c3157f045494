-- Lowering places along an order, and over the orders of several roots.
-- Assumes nothing.
use Rattle.std.specs.Prelude.{◌≡◌, ℕ, ◌+◌, ◌<◌, ◌≤◌, true, ◌⊎◌, List, length, get_or, set}
use mathlib.Core.Path.{refl, sym, ap, subst, ◌∙◌}
use mathlib.Core.Logic.{inl, inr, ⊎_elim}
use mathlib.Core.Bool.{true≢false}
use mathlib.Core.List.{Memᴰ}
use native.Mathlib.Omega.{arith}
use native.Mathlib.Decide.{ℕ_discrete}
use lib.ListN.{length-set}
use lib.Seq.{get_or-set_same, get_or-set_other}
use Rattle.lists.specs.Words.{has}
use Rattle.lists.proofs.Laws.{mark-in}
use Rattle.lists.proofs.Members.{mem-at, get_d-mem}
use Rattle.tables.specs.Project.{Project}
use Rattle.expected_visit.specs.OfProject.{expected_of}
use Rattle.suffix_rule.specs.inner.Suffix.{AllPlanned, Settled}
use Rattle.suffix_places.specs.inner.Places.{never, Earlier, Small, StandsBelow, Stands, Lowered, LowestBelow}

wider : {order sensitive : List ℕ} {k x m : ℕ} → StandsBelow order sensitive k x m → StandsBelow order sensitive (k + 1) x m
wider s = record { from = s.from; at = s.at; after = s.after; there = omega (arith, s.there); first = s.first; named = s.named; early = s.early; late = s.late }

module _ (order sensitive placed asked : List ℕ) where
  -- the members before k are looked at, and `least` is the least place of these
  pub record Lowering (k least : ℕ) (asked' : List ℕ) : Type 0 where
    pub len : length asked' ≡ length asked
    pub low : (m : ℕ) → get_or asked' m 0 ≤ get_or asked m 0
    pub some : 1 ≤ least
    pub least-low : (i : ℕ) → i < k → has sensitive (get_or order i 0) ≡ true → has placed (get_or order i 0) ≡ true → least ≤ get_or placed (get_or order i 0) 0
    pub least-one : (least ≡ never) ⊎ ((i : ℕ) × (i < k) × (has sensitive (get_or order i 0) ≡ true) × (has placed (get_or order i 0) ≡ true) × (least ≡ get_or placed (get_or order i 0) 0))
    pub all : (x m : ℕ) → StandsBelow order sensitive k x m → has placed x ≡ true → get_or asked' m 0 ≤ get_or placed x 0
    pub only : (m : ℕ) → (get_or asked' m 0 ≡ get_or asked m 0) ⊎ ((x : ℕ) × StandsBelow order sensitive k x m × (has placed x ≡ true) × (get_or asked' m 0 ≡ get_or placed x 0))

  module _ (k least : ℕ) (asked' : List ℕ) (g : Lowering k least asked') where
    -- a member that isn't sensitive
    pub lowering-pass : (has sensitive (get_or order k 0) ≡ true → ⊥) → Lowering (k + 1) least asked'
    lowering-pass n = record {
      len = g.len;
      low = g.low;
      some = g.some;
      least-low = λ i l s. lower i l s (ℕ_discrete i k);
      least-one = ⊎_elim inl (λ q. inr (q.0, omega (arith, q.1), q.2, q.3, q.4)) g.least-one;
      all = λ x m s h. earlier x m s h (ℕ_discrete s.at k);
      only = λ m. ⊎_elim inl (λ q. inr (q.0, wider q.1, q.2, q.3)) (g.only m);
    }
      where
        lower : (i : ℕ) → i < k + 1 → has sensitive (get_or order i 0) ≡ true → Dec (i ≡ k) → has placed (get_or order i 0) ≡ true → least ≤ get_or placed (get_or order i 0) 0
        lower i l s (yes q) = absurd (n (subst (λ (j : ℕ). has sensitive (get_or order j 0) ≡ true) q s))
        lower i l s (no q) = g.least-low i (omega arith) s

        earlier : (x m : ℕ) (s : StandsBelow order sensitive (k + 1) x m) → has placed x ≡ true → Dec (s.at ≡ k) → get_or asked' m 0 ≤ get_or placed x 0
        earlier x m s h (yes q) = absurd (n (subst (λ (j : ℕ). has sensitive (get_or order j 0) ≡ true) q (subst (λ (y : ℕ). has sensitive y ≡ true) (sym s.named) s.late)))
        earlier x m s h (no q) = g.all x m (record { from = s.from; at = s.at; after = s.after; there = omega (arith, s.there, q); first = s.first; named = s.named; early = s.early; late = s.late }) h

    -- a sensitive one
    module _ (small : Small asked) (inside : get_or order k 0 < length asked) (s : has sensitive (get_or order k 0) ≡ true) (least' r : ℕ) (e : Earlier least (get_or placed (get_or order k 0) 0) least') (f : Earlier (get_or asked' (get_or order k 0) 0) least' r) where
      abbrev here : ℕ
      here = get_or order k 0

      abbrev asked'' : List ℕ
      asked'' = set asked' here r

      least-some : 1 ≤ least'
      least-some = ⊎_elim (λ q. omega (arith, q, g.some)) (λ q. nonzero least' (λ z. q.1 (sym q.0 ∙ z))) e.one
        where
          nonzero : (x : ℕ) → (x ≡ 0 → ⊥) → 1 ≤ x
          nonzero x k = omega arith

      at_here : get_or asked'' here 0 ≡ r
      at_here = get_or-set_same asked' here r 0 (omega (arith, inside, g.len))

      other : (m : ℕ) → (m ≡ here → ⊥) → get_or asked'' m 0 ≡ get_or asked' m 0
      other m n = get_or-set_other asked' here m r 0 n

      falls : (m : ℕ) → Dec (m ≡ here) → get_or asked'' m 0 ≤ get_or asked' m 0
      falls m (yes q) = subst (λ (y : ℕ). get_or asked'' y 0 ≤ get_or asked' y 0) (sym q) (omega (arith, at_here, f.low))
      falls m (no n) = omega (arith, other m n)

      least-lows : (i : ℕ) → i < k + 1 → has sensitive (get_or order i 0) ≡ true → has placed (get_or order i 0) ≡ true → Dec (i ≡ k) → least' ≤ get_or placed (get_or order i 0) 0
      least-lows i l t h (yes q) = subst (λ (j : ℕ). least' ≤ get_or placed (get_or order j 0) 0) (sym q) (e.below (λ z. true≢false (sym (subst (λ (j : ℕ). has placed (get_or order j 0) ≡ true) q h) ∙ Rattle.lists.proofs.Laws.mark-out (get_or placed here 0) z)))
      least-lows i l t h (no n) = omega (arith, e.low, g.least-low i (omega arith) t h)

      placed-here : (get_or placed here 0 ≡ 0 → ⊥) → has placed here ≡ true
      placed-here n = mark-in (get_or placed here 0) n

      least-ones : (least' ≡ never) ⊎ ((i : ℕ) × (i < k + 1) × (has sensitive (get_or order i 0) ≡ true) × (has placed (get_or order i 0) ≡ true) × (least' ≡ get_or placed (get_or order i 0) 0))
      least-ones =
          ⊎_elim (λ q. ⊎_elim (λ z. inl (q ∙ z)) (λ z. inr (z.0, omega (arith, z.1), z.2, z.3, q ∙ z.4)) g.least-one)
          (λ q. inr (k, omega arith, s, placed-here q.1, q.0))
          e.one

      asks : (x m : ℕ) (t : StandsBelow order sensitive (k + 1) x m) → has placed x ≡ true → Dec (t.at ≡ k) → get_or asked'' m 0 ≤ get_or placed x 0
      asks x m t h (yes q) =
          let n : here ≡ m = ap (λ (j : ℕ). get_or order j 0) (sym q) ∙ t.named in
          let low = least-lows t.from (omega (arith, t.after, q)) (subst (λ (y : ℕ). has sensitive y ≡ true) (sym t.first) t.early) (subst (λ (y : ℕ). has placed y ≡ true) (sym t.first) h) (ℕ_discrete t.from k) in
          let below = f.below (λ z. omega (arith, z, least-some)) in
          subst (λ (y : ℕ). get_or asked'' y 0 ≤ get_or placed x 0) n (omega (arith, at_here, below, low, ap (λ (y : ℕ). get_or placed y 0) t.first))
      asks x m t h (no n) =
          let old = g.all x m (record { from = t.from; at = t.at; after = t.after; there = omega (arith, t.there, n); first = t.first; named = t.named; early = t.early; late = t.late }) h in
          omega (arith, old, falls m (ℕ_discrete m here))

      onlys : (m : ℕ) → Dec (m ≡ here) → (get_or asked'' m 0 ≡ get_or asked m 0) ⊎ ((x : ℕ) × StandsBelow order sensitive (k + 1) x m × (has placed x ≡ true) × (get_or asked'' m 0 ≡ get_or placed x 0))
      unfolding Small
      onlys m (no n) = ⊎_elim (λ q. inl (other m n ∙ q)) (λ q. inr (q.0, wider q.1, q.2, other m n ∙ q.3)) (g.only m)
      onlys m (yes q) =
          subst (λ (y : ℕ). (get_or asked'' y 0 ≡ get_or asked y 0) ⊎ ((x : ℕ) × StandsBelow order sensitive (k + 1) x y × (has placed x ≡ true) × (get_or asked'' y 0 ≡ get_or placed x 0))) (sym q)
          (⊎_elim
          (λ z. ⊎_elim (λ w. inl (at_here ∙ z ∙ w)) (λ w. inr (w.0, wider w.1, w.2, at_here ∙ z ∙ w.3)) (g.only here))
          (λ z.
          ⊎_elim
          (λ w. inl (at_here ∙ highest f.low (z.0 ∙ w)))
          (λ w. inr (get_or order w.0 0, record { from = w.0; at = k; after = omega (arith, w.1); there = omega arith; first = refl; named = refl; early = w.2; late = s }, w.3, at_here ∙ z.0 ∙ w.4))
          least-ones)
          f.one)
        where
          highest : r ≤ get_or asked' here 0 → r ≡ never → r ≡ get_or asked here 0
          highest a b = omega (arith, a, b, g.low here, small here)

      pub lowering-put : Lowering (k + 1) least' asked''
      lowering-put = record {
        len = length-set asked' here r ∙ g.len;
        low = λ m. omega (arith, falls m (ℕ_discrete m here), g.low m);
        some = least-some;
        least-low = λ i l t h. least-lows i l t h (ℕ_discrete i k);
        least-one = least-ones;
        all = λ x m t h. asks x m t h (ℕ_discrete t.at k);
        only = λ m. onlys m (ℕ_discrete m here);
      }

  pub lowering-end : (k least : ℕ) (asked' : List ℕ) → Lowering k least asked' → k ≡ length order → Lowered order sensitive placed asked asked'
  lowering-end k least asked' g e =
      let h : Lowering (length order) least asked' = subst (λ (j : ℕ). Lowering j least asked') e g in
      record { len = h.len; low = h.low; all = h.all; only = h.only }

-- every sensitive eligible member before k is listed
abbrev pub ListedBelow : List ℕ → List ℕ → List ℕ → List ℕ → ℕ → Type 0
ListedBelow order sensitive eligible placed k = (i : ℕ) → i < k → has sensitive (get_or order i 0) ≡ true → has eligible (get_or order i 0) ≡ true → has placed (get_or order i 0) ≡ true

pub listed-all : (order sensitive eligible placed : List ℕ) → ListedBelow order sensitive eligible placed (length order) → AllPlanned order sensitive eligible placed
unfolding AllPlanned
listed-all order sensitive eligible placed g m h s e =
    let r = mem-at order h in
    subst (λ (x : ℕ). has placed x ≡ true) r.2 (g r.0 r.1 (subst (λ (x : ℕ). has sensitive x ≡ true) (sym r.2) s) (subst (λ (x : ℕ). has eligible x ≡ true) (sym r.2) e))

-- over several roots
module _ (p : Project) (roots sensitive eligible placed asked : List ℕ) where
  abbrev order : ℕ → List ℕ
  order j = expected_of p (get_or roots j 0)

  pub lowest_start : (settled : List ℕ) → length settled ≡ length roots → Settled p roots sensitive eligible settled placed → LowestBelow p roots sensitive eligible placed asked 0 settled asked
  lowest_start settled n s = record { size = n; len = refl; low = λ m. omega arith; settles = s; all = λ j l. absurd (omega arith); only = λ m. inl refl }

  module _ (k : ℕ) (settled asked' : List ℕ) (g : LowestBelow p roots sensitive eligible placed asked k settled asked') where
    -- a settled root
    pub lowest-skip : k < length roots → has settled k ≡ true → LowestBelow p roots sensitive eligible placed asked (k + 1) settled asked'
    unfolding Settled AllPlanned
    lowest-skip l h = record { size = g.size; len = g.len; low = g.low; settles = g.settles; all = λ j b x m s. go j b x m s (ℕ_discrete j k); only = g.only }
      where
        go : (j : ℕ) → j < k + 1 → (x m : ℕ) → Stands (order j) sensitive x m → Dec (j ≡ k) → has placed x ≡ true → has eligible m ≡ true → (has placed m ≡ true) ⊎ (get_or asked' m 0 ≤ get_or placed x 0)
        go j b x m s (yes q) c d = inl (g.settles j (omega (arith, q)) (subst (λ (i : ℕ). has settled i ≡ true) (sym q) h) m (subst (λ (y : ℕ). Memᴰ y (order j)) s.named (get_d-mem (order j) s.at s.there)) s.late d)
        go j b x m s (no n) c d = g.all j (omega arith) x m s c d

    module _ (l : k < length roots) (asked'' : List ℕ) (h : Lowered (order k) sensitive placed asked' asked'') where
      alls : (j : ℕ) → j < k + 1 → (x m : ℕ) → Stands (order j) sensitive x m → Dec (j ≡ k) → has placed x ≡ true → has eligible m ≡ true → (has placed m ≡ true) ⊎ (get_or asked'' m 0 ≤ get_or placed x 0)
      alls j b x m s (yes q) c d = inr (h.all x m (subst (λ (i : ℕ). Stands (order i) sensitive x m) q s) c)
      alls j b x m s (no n) c d = ⊎_elim inl (λ q. inr (omega (arith, q, h.low m))) (g.all j (omega arith) x m s c d)

      -- a root that stays open
      pub lowest-open : LowestBelow p roots sensitive eligible placed asked (k + 1) settled asked''
      lowest-open = record {
        size = g.size;
        len = h.len ∙ g.len;
        low = λ m. omega (arith, h.low m, g.low m);
        settles = g.settles;
        all = λ j b x m s. alls j b x m s (ℕ_discrete j k);
        only = λ m. ⊎_elim (λ q. ⊎_elim (λ w. inl (q ∙ w)) (λ w. inr (w.0, w.1, w.2, w.3, w.4, q ∙ w.5)) (g.only m)) (λ q. inr (k, q.0, l, q.1, q.2, q.3)) (h.only m);
      }

      -- and one that is settled then
      pub lowest-settled : AllPlanned (order k) sensitive eligible placed → LowestBelow p roots sensitive eligible placed asked (k + 1) (set settled k 1) asked''
      unfolding Settled
      lowest-settled a =
          let o = lowest-open in
          record { size = length-set settled k 1 ∙ g.size; len = o.len; low = o.low; settles = λ j b e. go j b e (ℕ_discrete j k); all = o.all; only = o.only }
        where
          go : (j : ℕ) → j < length roots → has (set settled k 1) j ≡ true → Dec (j ≡ k) → AllPlanned (order j) sensitive eligible placed
          go j b e (yes q) = subst (λ (i : ℕ). AllPlanned (order i) sensitive eligible placed) (sym q) a
          go j b e (no n) = g.settles j b (sym (ap (λ (x : ℕ). mathlib.Core.Bool.not (Rattle.lists.specs.Words.is_zero x)) (get_or-set_other settled k j 1 0 n)) ∙ e)
