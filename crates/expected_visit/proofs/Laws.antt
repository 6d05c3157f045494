-- What crates above may use of the expected order: no module stands twice, and the members are the included ones among the reached.
-- Assumes nothing.
use Rattle.std.specs.Prelude.{◌≡◌, ℕ, ◌<◌, ◌≤◌, true, false, List, [], ◌∷◌, length, get_or}
use mathlib.Core.Path.{refl, sym, ap, subst}
use mathlib.Core.Logic.{⊎_elim}
use mathlib.Core.List.Memᴰ
use mathlib.Core.List.{Memᴰ}
use native.Mathlib.Omega.{arith}
use Rattle.lists.specs.Words.{keep, Distinct}
use Rattle.lists.proofs.Laws.{both, mem-keep, keep-mem, distinct-keep, length-keep}
use Rattle.lists.proofs.Members.{mem-flat, get_d-mem}
use Rattle.walk.specs.Walk.{everywhere}
use Rattle.walk.specs.Reach.{Reach, ReachAny}
use Rattle.walk.proofs.Orders.{order-met, order-distinct, order-length, all-reach, reach-all}
use Rattle.tables.specs.Project.{Project}
use Rattle.tables.specs.Accepted.{Below}
use Rattle.tables.specs.Readings.{modules, is_normal, flagged, is_import, normal_target, resolved, row_targets, rows_of, targets_of}
use Rattle.tables.specs.declared.Target.{Target}
use Rattle.tables.specs.declared.Target.TheVariants.{Missing, External, Normal}
use Rattle.expected_visit.specs.OfProject.{expected_of}
use Rattle.expected_visit.specs.Expected.{normal_imports_of, walked_from, expected}
use Rattle.tables.proofs.Targets.{normal-in, target-in}

normal-target : (t : Target) (y : ℕ) → Memᴰ y (normal_target t) → t ≡ Normal y
normal-target Missing y h = absurd (Memᴰ.not-nil h)
normal-target (External m) y h = absurd (Memᴰ.not-nil h)
normal-target (Normal m) y h = ap Normal (sym (Memᴰ.eq_of_singleton h))

module _ (normal record_module record_kind record_target : List ℕ) where
  -- what is imported has a row
  pub imports-in : (m y : ℕ) → Memᴰ y (normal_imports_of normal record_module record_kind record_target m) → y < length normal
  unfolding targets_of
  imports-in m y h =
      let r = mem-flat (row_targets is_import normal_target normal record_kind record_target) (rows_of record_module m) h in
      let row = r.0 in
      ⊎_elim
      (λ e. target-in normal record_kind record_target row y (normal-target (resolved normal record_target row) y (rw e at r.2)))
      (λ e. absurd (Memᴰ.not-nil (rw e at r.2)))
      (both (is_import (get_or record_kind row 0)))

  module _ (root : ℕ) (n : is_normal normal root ≡ true) where
    start : (r : ℕ) → Memᴰ r (root ∷ []) → r < length normal
    start r h = subst (λ (x : ℕ). x < length normal) (sym (Memᴰ.eq_of_singleton h)) (normal-in normal root n)

    -- from a normal root the walk meets the modules that paths lead to
    pub reached-path : (x : ℕ) → Memᴰ x (walked_from normal record_module record_kind record_target root) → Reach (normal_imports_of normal record_module record_kind record_target) root x
    unfolding ReachAny
    reached-path x h =
        let succ = normal_imports_of normal record_module record_kind record_target in
        let a = all-reach succ (length normal) (λ m y l. imports-in m y) (root ∷ []) start x h in
        subst (λ (r : ℕ). Reach succ r x) (Memᴰ.eq_of_singleton a.1) a.2

    pub path-reached : (x : ℕ) → Reach (normal_imports_of normal record_module record_kind record_target) root x → Memᴰ x (walked_from normal record_module record_kind record_target root)
    unfolding ReachAny
    path-reached x p = reach-all (normal_imports_of normal record_module record_kind record_target) (length normal) (λ m y l. imports-in m y) (root ∷ []) start x (root, Memᴰ.head refl, p)

module _ (normal included record_module record_kind record_target : List ℕ) (root : ℕ) where
  abbrev list : List ℕ
  list = expected normal included record_module record_kind record_target root

  expected-normal : is_normal normal root ≡ true → list ≡ keep (flagged included) (walked_from normal record_module record_kind record_target root)
  unfolding expected
  expected-normal e = rw e

  -- the order of an external root is empty
  pub expected-external : is_normal normal root ≡ false → list ≡ []
  unfolding expected
  expected-external e = rw e

  -- no module stands twice
  pub expected-distinct : Distinct list
  unfolding Distinct
  expected-distinct =
      ⊎_elim
      (λ e. subst Distinct (sym (expected-normal e)) (distinct-keep (flagged included) (walked_from normal record_module record_kind record_target root) (order-distinct (normal_imports_of normal record_module record_kind record_target) everywhere (length normal) (root ∷ []))))
      (λ e. subst Distinct (sym (expected-external e)) tt)
      (both (is_normal normal root))

  -- there are no more than modules
  pub expected-length : length list ≤ length normal
  expected-length =
      let o = order-length (normal_imports_of normal record_module record_kind record_target) everywhere (length normal) (root ∷ []) in
      ⊎_elim
      (λ e. rw (expected-normal e) (omega (arith, o, length-keep (flagged included) (walked_from normal record_module record_kind record_target root))))
      (λ e. rw (expected-external e) (omega arith))
      (both (is_normal normal root))

  -- every member has a row
  pub expected-in : (x : ℕ) → Memᴰ x list → x < length normal
  expected-in x h =
      ⊎_elim
      (λ e. (order-met (normal_imports_of normal record_module record_kind record_target) everywhere (length normal) (root ∷ []) x (mem-keep (flagged included) (walked_from normal record_module record_kind record_target root) (subst (Memᴰ x) (expected-normal e) h)).0).0)
      (λ e. absurd (Memᴰ.not-nil (subst (Memᴰ x) (expected-external e) h)))
      (both (is_normal normal root))

  -- a member is included, and a path of kind 0 records over normal targets leads to it from the root, which is normal
  pub record Member (x : ℕ) : Type 0 where
    pub rooted : is_normal normal root ≡ true
    pub listed : flagged included x ≡ true
    pub path : Reach (normal_imports_of normal record_module record_kind record_target) root x

  pub expected-member : (x : ℕ) → Memᴰ x list → Member x
  expected-member x h =
      ⊎_elim
      (λ e.
      let k = mem-keep (flagged included) (walked_from normal record_module record_kind record_target root) (subst (Memᴰ x) (expected-normal e) h) in
      record { rooted = e; listed = k.1; path = reached-path normal record_module record_kind record_target root e x k.0 })
      (λ e. absurd (Memᴰ.not-nil (subst (Memᴰ x) (expected-external e) h)))
      (both (is_normal normal root))

  pub member-expected : (x : ℕ) → Member x → Memᴰ x list
  member-expected x m =
      subst (Memᴰ x) (sym (expected-normal m.rooted))
      (keep-mem (flagged included) (walked_from normal record_module record_kind record_target root) (path-reached normal record_module record_kind record_target root m.rooted x m.path) m.listed)

-- the same at a project
pub expected-below : (p : Project) (root : ℕ) → Below (modules p) (expected_of p root)
unfolding expected_of
expected-below p root i l = expected-in p.normal p.included p.record_module p.record_kind p.record_target root (get_or (expected_of p root) i 0) (get_d-mem (expected_of p root) i l)
