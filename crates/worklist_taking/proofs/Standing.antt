-- Rule (i) by two places of an expected order.
-- Assumes nothing.
use mathlib.Core.Path.{◌≡◌, refl, sym, ap, subst, ◌∙◌}
use mathlib.Core.Bool.{Bool, true}
use mathlib.Core.List.Memᴰ
use mathlib.Core.List.{List, [], ◌∷◌, map, Memᴰ}
use Prim.Native.Nat.{ℕ}
use lib.ListN.{get_or}
use Rattle.lists.specs.Words.{keep, elem, has}
use Rattle.lists.proofs.Laws.{and_parts, and-join, any-mem, mem-any}
use Rattle.tables.specs.Project.{Project}
use Rattle.expected_visit.specs.OfProject.{expected_of}
use Rattle.sensitivity.specs.Marks.{sensitive_marks}
use Rattle.eligibility.specs.Eligible.{eligible, eligible_marks}
use Rattle.sensitivity.proofs.Marks.{sensitive-marks}
use Rattle.wrap_rules.specs.Rules.{from_first, suffix_asks}
use Rattle.wrap_rules.specs.Plan.{roots, expected_sensitive_of, orders_of}
use Rattle.wrap_rules.proofs.Sets.{eligible-has}
use Rattle.suffix_rule.specs.inner.Suffix.{InSuffix}
use Rattle.suffix_rule.proofs.Extending.{suffix-in, in-suffix}
use Rattle.suffix_places.specs.inner.Places.{Stands}

module _ (p : Project) (S : List ℕ) where
  -- an order with all but the sensitive modules left out
  order_is : (root : ℕ) → expected_sensitive_of p root ≡ keep (has (sensitive_marks p)) (expected_of p root)
  unfolding expected_sensitive_of
  order_is root = ap (λ (f : ℕ → Bool). keep f (expected_of p root)) (sym (sensitive-marks p))

  pub suffix-stands : (m : ℕ) → suffix_asks (eligible p) (orders_of p) S m ≡ true
      → (eligible p m ≡ true) × ((root x : ℕ) × Memᴰ root (roots p) × Stands (expected_of p root) (sensitive_marks p) x m × (has S x ≡ true))
  unfolding suffix_asks orders_of
  suffix-stands m e =
      let a = and_parts (eligible p m) _ e in
      let r = any-mem (λ (order : List ℕ). elem m (from_first (has S) order)) (map (expected_sensitive_of p) (roots p)) a.1 in
      let q = Memᴰ.of_map (expected_sensitive_of p) (roots p) r.1 in
      let o : r.0 ≡ keep (has (sensitive_marks p)) (expected_of p q.0) = sym q.2 ∙ order_is q.0 in
      let i = (suffix-in (sensitive_marks p) (eligible_marks p) (expected_of p q.0) S m (one q.0 (eligible-has p m ∙ a.0) (subst (λ (order : List ℕ). elem m (from_first (has S) order) ≡ true) o r.2))).0 in
      (a.0, (q.0, get_or (expected_of p q.0) i.from 0, q.1, record { from = i.from; at = i.at; after = i.after; there = i.there; first = refl; named = i.named; early = i.first; late = i.sensitives }, i.planned))
    where
      one : (root : ℕ) → has (eligible_marks p) m ≡ true → elem m (from_first (has S) (keep (has (sensitive_marks p)) (expected_of p root))) ≡ true
          → suffix_asks (has (eligible_marks p)) (keep (has (sensitive_marks p)) (expected_of p root) ∷ []) S m ≡ true
      one root g h = and-join (has (eligible_marks p) m) _ g (mem-any (λ (order : List ℕ). elem m (from_first (has S) order)) (keep (has (sensitive_marks p)) (expected_of p root) ∷ []) (Memᴰ.head refl) h)

  pub stands-suffix : (root x m : ℕ) → eligible p m ≡ true → Memᴰ root (roots p) → Stands (expected_of p root) (sensitive_marks p) x m → has S x ≡ true → suffix_asks (eligible p) (orders_of p) S m ≡ true
  unfolding suffix_asks orders_of
  stands-suffix root x m g h s e =
      let i : InSuffix (expected_of p root) (sensitive_marks p) S m = record {
        sensitives = s.late;
        from = s.from;
        at = s.at;
        after = s.after;
        there = s.there;
        first = subst (λ (y : ℕ). has (sensitive_marks p) y ≡ true) (sym s.first) s.early;
        planned = subst (λ (y : ℕ). has S y ≡ true) (sym s.first) e;
        named = s.named;
      } in
      let t = in-suffix (sensitive_marks p) (eligible_marks p) (expected_of p root) S m (i, eligible-has p m ∙ g) in
      and-join (eligible p m) _ g
      (mem-any (λ (order : List ℕ). elem m (from_first (has S) order)) (map (expected_sensitive_of p) (roots p)) (mathlib.Core.List.Memᴰ.map (expected_sensitive_of p) h)
      (subst (λ (order : List ℕ). elem m (from_first (has S) order) ≡ true) (sym (order_is root)) (single root t)))
    where
      single : (root : ℕ) → suffix_asks (has (eligible_marks p)) (keep (has (sensitive_marks p)) (expected_of p root) ∷ []) S m ≡ true → elem m (from_first (has S) (keep (has (sensitive_marks p)) (expected_of p root))) ≡ true
      single root t =
          let b = and_parts (has (eligible_marks p) m) _ t in
          let r = any-mem (λ (order : List ℕ). elem m (from_first (has S) order)) (keep (has (sensitive_marks p)) (expected_of p root) ∷ []) b.1 in
          subst (λ (order : List ℕ). elem m (from_first (has S) order) ≡ true) (Memᴰ.eq_of_singleton r.1) r.2
