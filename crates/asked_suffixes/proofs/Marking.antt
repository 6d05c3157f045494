-- The suffixes of several entries' orders, marked by one plan, are what rule (i) asks for with it.
-- Assumes nothing.
use Rattle.std.specs.Prelude.{◌≡◌, ℕ, ◌+◌, ◌<◌, ◌≤◌, Bool, true, List, [], ◌∷◌, ◌++◌, map, length, get_or, take}
use mathlib.Core.Path.{refl, sym, ap, subst, ◌∙◌}
use mathlib.Core.Logic.{inl, inr, ⊎_elim}
use mathlib.Core.List.Memᴰ
use mathlib.Core.List.{Memᴰ}
use native.Mathlib.Omega.{arith}
use lib.Seq.{take_all}
use Rattle.lists.specs.Words.{keep, elem, has}
use Rattle.lists.proofs.Laws.{and_parts, and-join, any-mem, mem-any, take_more}
use Rattle.walk.specs.Close.{Within}
use Rattle.tables.specs.Project.{Project}
use Rattle.expected_visit.specs.OfProject.{expected_of}
use Rattle.sensitivity.specs.Marks.{sensitive_marks}
use Rattle.eligibility.specs.Eligible.{eligible, eligible_marks}
use Rattle.eligibility.proofs.Eligible.{eligible-marks}
use Rattle.wrap_rules.specs.Rules.{from_first, suffix_asks}
use Rattle.wrap_rules.specs.Plan.{roots, orders_of}
use Rattle.suffix_rule.specs.inner.Suffix.{InSuffix, Joined, sensitive_orders}
use Rattle.suffix_rule.proofs.Extending.{suffix-in, in-suffix}
use Rattle.suffix_rule.proofs.OfProject.{orders-are}
use Rattle.asked_suffixes.specs.inner.Asked.{InSome}

module _ (p : Project) (root_list sensitive S : List ℕ) where
  -- the suffixes of the roots before k are marked
  abbrev pub Before : ℕ → List ℕ → List ℕ → Type 0
  Before k s t = Joined (InSome p (take k root_list) sensitive S) s t

  pub before-none : (s : List ℕ) → Before 0 s s
  unfolding Within
  before-none s = record { len = refl; old = λ m e. e; all = λ m l i. absurd (Memᴰ.not-nil i.listed); only = λ m e. inl e }

  pub before_more : (k : ℕ) {s t u : List ℕ} → k < length root_list → Before k s t → Joined (InSuffix (expected_of p (get_or root_list k 0)) sensitive S) t u → Before (k + 1) s u
  unfolding Within
  before_more k {s} {t} {u} l b j = record {
    len = j.len ∙ b.len;
    old = λ m e. j.old m (b.old m e);
    all = λ m h i.
        ⊎_elim (λ q. j.old m (b.all m h (record { root = i.root; listed = q; inside = i.inside })))
        (λ q. j.all m (omega (arith, b.len)) (subst (λ (r : ℕ). InSuffix (expected_of p r) sensitive S m) (Memᴰ.eq_of_singleton q) i.inside))
        (Memᴰ.append_cases (take k root_list) (subst (Memᴰ i.root) (sym (take_more root_list k l)) i.listed));
    only = λ m e.
        ⊎_elim
        (λ q. ⊎_elim inl (λ i. inr (record { root = i.root; listed = more (Memᴰ.append_left (get_or root_list k 0 ∷ []) i.listed); inside = i.inside })) (b.only m q))
        (λ i. inr (record { root = get_or root_list k 0; listed = more (Memᴰ.append_right (take k root_list) (Memᴰ.head refl)); inside = i }))
        (j.only m e);
  }
    where
      more : {r : ℕ} → Memᴰ r (take k root_list ++ (get_or root_list k 0 ∷ [])) → Memᴰ r (take (k + 1) root_list)
      more {r} h = subst (Memᴰ r) (take_more root_list k l) h

  pub before-end : (k : ℕ) {s t : List ℕ} → length root_list ≤ k → Before k s t → Joined (InSome p root_list sensitive S) s t
  before-end k l b = rw (take_all k root_list l) at b

-- rule (i) asks for what is eligible of them
module _ (p : Project) (S : List ℕ) where
  abbrev order : ℕ → List ℕ
  order root = keep (has (sensitive_marks p)) (expected_of p root)

  abbrev asks_of : ℕ → Bool
  asks_of = suffix_asks (has (eligible_marks p)) (sensitive_orders p (sensitive_marks p) (roots p)) S

  same : (m : ℕ) → asks_of m ≡ suffix_asks (eligible p) (orders_of p) S m
  same m =
      ap (λ (f : ℕ → Bool). suffix_asks f (sensitive_orders p (sensitive_marks p) (roots p)) S m) (eligible-marks p)
      ∙ ap (λ (orders : List (List ℕ)). suffix_asks (eligible p) orders S m) (orders-are p)

  pub asks-some : (m : ℕ) → suffix_asks (eligible p) (orders_of p) S m ≡ true → InSome p (roots p) (sensitive_marks p) S m × (has (eligible_marks p) m ≡ true)
  unfolding suffix_asks sensitive_orders
  asks-some m e =
      let a = and_parts (has (eligible_marks p) m) _ (same m ∙ e) in
      let f : List ℕ → Bool = λ (xs : List ℕ). elem m (from_first (has S) xs) in
      let r = any-mem f (map order (roots p)) a.1 in
      let q = Memᴰ.of_map order (roots p) r.1 in
      let one = order q.0 ∷ [] in
      let i = suffix-in (sensitive_marks p) (eligible_marks p) (expected_of p q.0) S m (and-join (has (eligible_marks p) m) _ a.0 (mem-any f one (Memᴰ.head refl) (subst (λ (xs : List ℕ). f xs ≡ true) (sym q.2) r.2))) in
      (record { root = q.0; listed = q.1; inside = i.0 }, a.0)

  pub some-asks : (m : ℕ) → InSome p (roots p) (sensitive_marks p) S m → has (eligible_marks p) m ≡ true → suffix_asks (eligible p) (orders_of p) S m ≡ true
  unfolding suffix_asks sensitive_orders
  some-asks m i g =
      let f : List ℕ → Bool = λ (xs : List ℕ). elem m (from_first (has S) xs) in
      let one = order i.root ∷ [] in
      let a = and_parts (has (eligible_marks p) m) _ (in-suffix (sensitive_marks p) (eligible_marks p) (expected_of p i.root) S m (i.inside, g)) in
      let r = any-mem f one a.1 in
      sym (same m)
      ∙ and-join (has (eligible_marks p) m) _ g
      (mem-any f (map order (roots p)) (Memᴰ.map order i.listed) (subst (λ (xs : List ℕ). f xs ≡ true) (Memᴰ.eq_of_singleton r.1) r.2))
