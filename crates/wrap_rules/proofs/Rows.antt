-- Each rule by the rows that make it ask: what a pass over the rows looks for, and that nothing else makes the rule ask.
-- Assumes nothing.
use mathlib.Core.Path.{◌≡◌, refl, sym, subst, ◌∙◌}
use mathlib.Core.Logic.{⊎_elim}
use mathlib.Core.Bool.{Bool, true, cond, ◌&&◌}
use mathlib.Core.List.Memᴰ
use mathlib.Core.List.{List, [], ◌∷◌, Memᴰ}
use Prim.Native.Nat.{ℕ, zero, suc, ◌≤◌, ◌<◌}
use native.Mathlib.Nat.{not-suc-le-zero}
use native.Mathlib.Omega.{arith}
use lib.ListN.{length, get_or}
use lib.Dec.{eqb}
use borrow.Author.Tests.{eq-eqb, ne_eqb, eqb-true, eqb-false}
use Rattle.lists.specs.Words.{up_to, any, has}
use Rattle.lists.proofs.Laws.{both, and_parts, and-join, any-mem, mem-any, mem-up_to, up_to-mem}
use Rattle.lists.proofs.Members.{get_d-mem, mem-at, mem-flat, flat-mem}
use Rattle.tables.specs.Project.{Project, missing}
use Rattle.tables.specs.Readings.{modules, is_normal, flagged, is_import, resolved, any_target, row_targets, targets_of, rows_of, values_of}
use Rattle.tables.proofs.OwnerRows.{values-row, row-values, mem-rows, rows-mem}
use Rattle.tables.proofs.Targets.{any-resolved}
use Rattle.wrap_rules.specs.Rules.{from_first, same_component, component_asks, imports_of, leads, import_asks, reference_touches, read_asks}

-- (i) by two places of an order, the first one's module planned

pub from_first-places : (f : ℕ → Bool) {x : ℕ} (xs : List ℕ) → Memᴰ x (from_first f xs)
    → (i j : ℕ) × (i ≤ j) × (j < length xs) × (f (get_or xs i 0) ≡ true) × (get_or xs j 0 ≡ x)
from_first-places f [] h = absurd (Memᴰ.not-nil h)
from_first-places f {x = x} (y ∷ xs) h =
    ⊎_elim
    (λ e. let r = mem-at (y ∷ xs) (rw e at h) in (zero, r.0, omega arith, r.1, e, r.2))
    (λ e. let r = from_first-places f {x = x} xs (rw e at h) in (suc r.0, suc r.1, omega (arith, r.2), omega (arith, r.3), r.4, r.5))
    (both (f y))

pub places-from_first : (f : ℕ → Bool) (xs : List ℕ) (i j : ℕ) → i ≤ j → j < length xs → f (get_or xs i 0) ≡ true → Memᴰ (get_or xs j 0) (from_first f xs)
places-from_first f [] i j l k e = absurd (not-suc-le-zero k)
places-from_first f (y ∷ xs) zero j l k e = rw e (get_d-mem (y ∷ xs) j k)
places-from_first f (y ∷ xs) (suc i) zero l k e = absurd (not-suc-le-zero l)
places-from_first f (y ∷ xs) (suc i) (suc j) l k e =
    ⊎_elim (λ q. rw q (Memᴰ.tail (get_d-mem xs j (omega arith)))) (λ q. rw q (places-from_first f xs i j (omega arith) (omega arith) e)) (both (f y))

-- (ii) by a member row and a planned module of the same component

module _ (sensitive eligible : ℕ → Bool) (labels : List ℕ) (p : Project) (S : List ℕ) where
  abbrev pub meets : ℕ → ℕ → Bool
  meets row x = same_component labels (get_or p.chunk x missing) (get_or p.member_chunk row 0)

  pub component-asks : (row x : ℕ) → row < length p.member → x < modules p → has S x ≡ true → meets row x ≡ true
      → sensitive (get_or p.member row 0) ≡ true → eligible (get_or p.member row 0) ≡ true → component_asks sensitive eligible labels p S (get_or p.member row 0) ≡ true
  unfolding component_asks
  component-asks row x l k h c s g =
      let m : ℕ = get_or p.member row 0 in
      and-join (sensitive m) _ s
      (and-join (eligible m) _ g
      (mem-any (λ (r : ℕ). eqb (get_or p.member r 0) m && any (λ (y : ℕ). has S y && meets r y) (up_to (modules p))) (up_to (length p.member)) (up_to-mem l) (and-join (eqb m m) _ (eq-eqb m m refl) (mem-any (λ (y : ℕ). has S y && meets row y) (up_to (modules p)) (up_to-mem k) (and-join (has S x) _ h c)))))

  pub component-rows : (m : ℕ) → component_asks sensitive eligible labels p S m ≡ true
      → (sensitive m ≡ true) × (eligible m ≡ true)
      × ((row x : ℕ) × (row < length p.member) × (get_or p.member row 0 ≡ m) × (x < modules p) × (has S x ≡ true) × (meets row x ≡ true))
  unfolding component_asks
  component-rows m e =
      let a = and_parts (sensitive m) _ e in
      let b = and_parts (eligible m) _ a.1 in
      let r = any-mem (λ (r : ℕ). eqb (get_or p.member r 0) m && any (λ (y : ℕ). has S y && meets r y) (up_to (modules p))) (up_to (length p.member)) b.1 in
      let c = and_parts (eqb (get_or p.member r.0 0) m) _ r.2 in
      let q = any-mem (λ (y : ℕ). has S y && meets r.0 y) (up_to (modules p)) c.1 in
      let d = and_parts (has S q.0) _ q.2 in
      (a.0, b.0, (r.0, q.0, mem-up_to r.1, eqb-true (get_or p.member r.0 0) m c.0, mem-up_to q.1, d.0, d.1))

-- (iii) by a dependency row with a planned dependency, and a kind 0 record whose target is planned or leads to a planned module

module _ (p : Project) where
  pub import-row : {y : ℕ} (m : ℕ) → Memᴰ y (imports_of p m)
      → (row : ℕ) × (row < length p.record_module) × (get_or p.record_module row 0 ≡ m) × (get_or p.record_kind row 0 ≡ 0) × (get_or p.record_target row 0 ≡ y) × (y ≡ missing → ⊥)
  unfolding targets_of
  import-row {y} m h =
      let r = mem-flat (row_targets is_import any_target p.normal p.record_kind p.record_target) (rows_of p.record_module m) h in
      let b = mem-rows p.record_module m r.1 in
      let t = led r.0 r.2 in
      (r.0, b.0, b.1, t.0, t.1, t.2)
    where
      there : (row : ℕ) → Memᴰ y (cond (eqb (get_or p.record_target row 0) missing) [] (get_or p.record_target row 0 ∷ [])) → (get_or p.record_target row 0 ≡ y) × (y ≡ missing → ⊥)
      there row k =
          ⊎_elim (λ e. absurd (Memᴰ.not-nil (rw e at k)))
          (λ e. let q : y ≡ get_or p.record_target row 0 = Memᴰ.eq_of_singleton (rw e at k) in (sym q, λ z. eqb-false (get_or p.record_target row 0) missing e (sym q ∙ z)))
          (both (eqb (get_or p.record_target row 0) missing))

      led : (row : ℕ) → Memᴰ y (row_targets is_import any_target p.normal p.record_kind p.record_target row)
          → (get_or p.record_kind row 0 ≡ 0) × (get_or p.record_target row 0 ≡ y) × (y ≡ missing → ⊥)
      led row k =
          ⊎_elim (λ e. let t = there row (subst (Memᴰ y) (any-resolved p.normal p.record_target row) (rw e at k)) in (eqb-true (get_or p.record_kind row 0) 0 e, t.0, t.1))
          (λ e. absurd (Memᴰ.not-nil (rw e at k)))
          (both (is_import (get_or p.record_kind row 0)))

  pub row-import : (row : ℕ) → row < length p.record_module → get_or p.record_kind row 0 ≡ 0 → (get_or p.record_target row 0 ≡ missing → ⊥)
      → Memᴰ (get_or p.record_target row 0) (imports_of p (get_or p.record_module row 0))
  unfolding targets_of
  row-import row l k n =
      flat-mem (row_targets is_import any_target p.normal p.record_kind p.record_target) (rows_of p.record_module (get_or p.record_module row 0)) (rows-mem p.record_module row l)
      (rw (eq-eqb (get_or p.record_kind row 0) 0 k) (rw (any-resolved p.normal p.record_target row) (rw (ne_eqb (get_or p.record_target row 0) missing n) (Memᴰ.head refl))))

  module _ (eligible reached : ℕ → Bool) (S : List ℕ) where
    pub import-asks : (m d row : ℕ) → eligible m ≡ true → reached m ≡ true
        → d < length p.dependency_module → get_or p.dependency_module d 0 ≡ m → has S (get_or p.dependency d 0) ≡ true
        → Memᴰ row (imports_of p m) → leads p S row ≡ true → import_asks eligible reached p S m ≡ true
    unfolding import_asks
    import-asks m d t g r l q h k e =
        and-join (eligible m) _ g
        (and-join (reached m) _ r
        (and-join (any (has S) (values_of p.dependency_module p.dependency m)) _
        (mem-any (has S) (values_of p.dependency_module p.dependency m) (subst (λ (x : ℕ). Memᴰ (get_or p.dependency d 0) (values_of p.dependency_module p.dependency x)) q (row-values p.dependency_module p.dependency d l)) h)
        (mem-any (leads p S) (imports_of p m) k e)))

    pub import-rows : (m : ℕ) → import_asks eligible reached p S m ≡ true
        → (eligible m ≡ true) × (reached m ≡ true)
        × ((d : ℕ) × (d < length p.dependency_module) × (get_or p.dependency_module d 0 ≡ m) × (has S (get_or p.dependency d 0) ≡ true))
        × ((t : ℕ) × Memᴰ t (imports_of p m) × (leads p S t ≡ true))
    unfolding import_asks
    import-rows m e =
        let a = and_parts (eligible m) _ e in
        let b = and_parts (reached m) _ a.1 in
        let c = and_parts (any (has S) (values_of p.dependency_module p.dependency m)) _ b.1 in
        let d = any-mem (has S) (values_of p.dependency_module p.dependency m) c.0 in
        let v = values-row p.dependency_module p.dependency m d.0 d.1 in
        (a.0, b.0, (v.0, v.1, v.2, subst (λ (x : ℕ). has S x ≡ true) (sym v.3) d.2), any-mem (leads p S) (imports_of p m) c.1)

    -- (iv) by a reference row that touches the plan, of any statement of the module

    pub read-asks : (m s r : ℕ) → eligible m ≡ true → reached m ≡ true → flagged p.reads m ≡ true
        → s < length p.statement_module → get_or p.statement_module s 0 ≡ m → r < length p.reference_statement → get_or p.reference_statement r 0 ≡ s
        → reference_touches p S r ≡ true → read_asks eligible reached p S m ≡ true
    unfolding read_asks
    read-asks m s r g h f l q k t e =
        and-join (eligible m) _ g
        (and-join (reached m) _ h
        (and-join (flagged p.reads m) _ f
        (mem-any (λ (x : ℕ). any (reference_touches p S) (rows_of p.reference_statement x)) (rows_of p.statement_module m) (subst (λ (x : ℕ). Memᴰ s (rows_of p.statement_module x)) q (rows-mem p.statement_module s l))
        (mem-any (reference_touches p S) (rows_of p.reference_statement s) (subst (λ (x : ℕ). Memᴰ r (rows_of p.reference_statement x)) t (rows-mem p.reference_statement r k)) e))))

    pub read-rows : (m : ℕ) → read_asks eligible reached p S m ≡ true
        → (eligible m ≡ true) × (reached m ≡ true) × (flagged p.reads m ≡ true)
        × ((s r : ℕ) × (s < length p.statement_module) × (get_or p.statement_module s 0 ≡ m) × (r < length p.reference_statement) × (get_or p.reference_statement r 0 ≡ s) × (reference_touches p S r ≡ true))
    unfolding read_asks
    read-rows m e =
        let a = and_parts (eligible m) _ e in
        let b = and_parts (reached m) _ a.1 in
        let c = and_parts (flagged p.reads m) _ b.1 in
        let d = any-mem (λ (x : ℕ). any (reference_touches p S) (rows_of p.reference_statement x)) (rows_of p.statement_module m) c.1 in
        let v = mem-rows p.statement_module m d.1 in
        let q = any-mem (reference_touches p S) (rows_of p.reference_statement d.0) d.2 in
        let w = mem-rows p.reference_statement d.0 q.1 in
        (a.0, b.0, c.0, (d.0, q.0, v.0, v.1, w.0, w.1, q.2))
