-- Demand 2 at the operations' own terms, proved.
-- Assumes nothing.
use mathlib.Core.Path.{◌≡◌, refl, sym, ap, subst, ◌∙◌}
use mathlib.Core.Logic.{⊎_elim}
use mathlib.Core.Bool.{Bool, true, false, cond}
use mathlib.Core.List.Memᴰ
use mathlib.Core.List.{List, [], ◌∷◌, Memᴰ}
use Prim.Native.Nat.{ℕ, ◌<◌}
use native.Mathlib.Omega.{arith}
use lib.ListN.{length, get_or}
use lib.Dec.{eqb}
use borrow.Author.Tests.{eqb-true, eqb-false, eq-eqb, ne_eqb}
use Rattle.lists.specs.Words.{up_to, keep, has}
use Rattle.lists.proofs.Laws.{both, mem-keep, mem-up_to, elem_mem, mem-elem, any-mem, mem-any}
use Rattle.lists.proofs.Members.{mem-flat, flat-mem}
use Rattle.walk.specs.Walk.{everywhere, post_order}
use Rattle.walk.specs.Reach.{Reach, here, step, ReachAny}
use Rattle.walk.proofs.Orders.{all-reach, reach-all}
use Rattle.tables.specs.Project.{Project, missing}
use Rattle.tables.specs.declared.Target.{Target}
use Rattle.tables.specs.Readings.{modules, is_normal, is_import, rows_of, resolved, normal_target, any_target, row_targets, targets_of, analysed, analysed_row, is_analysed}
use Rattle.tables.specs.Accepted.{Accepted}
use Rattle.tables.proofs.Accepted.{accepted}
use Rattle.tables.proofs.OwnerRows.{mem-rows, rows-mem}
use Rattle.evaluation.proofs.Expected.{evaluation-gives-the-expected-order}
use Rattle.chunk_cycles.specs.Paths.{Path*, Path⁺, Connected, stay as stay*, go as go*}
use Rattle.chunk_cycles.proofs.Paths.{cyclic-circle, label-lowest, same-labels, reach-paths}
use Rattle.chunk_cycles.proofs.OverTable.{accepted-fit}
use Rattle.wrap_rules.specs.Rules.{imports_of, leads}
use Rattle.wrap_rules.specs.Plan.{roots, reached}
use Rattle.wrap_rules.proofs.Roots.{root_in}
use Rattle.load_promises.specs.Load.{normal_imports}
use Rattle.load_promises.specs.OwnTerms.{EvaluationExecutesTheExpectedOrder, LabelsAreStrongConnection, ImportRow, RecordPath, stay, go, ReachedIsAPath, LeadsIsAPath}
use Rattle.promises.proofs.Theorems.{analysed-root}
use Rattle.load_promises.proofs.LoadEvaluation.{expected-normal}

pub evaluation_executes_the_expected_order : EvaluationExecutesTheExpectedOrder
unfolding EvaluationExecutesTheExpectedOrder
evaluation_executes_the_expected_order p root k premises enough =
    (evaluation-gives-the-expected-order p root premises k enough).executes ∙ sym (expected-normal p root (premises.normal root (here refl)))

module _ (p : Project) where
  -- paths, one after the other

  join : {c d e : ℕ} → Path* p c d → Path* p d e → Path* p c e
  join {c} {d} {e} (stay* q) b = subst (λ (x : ℕ). Path* p x e) q b
  join (go* e a) b = go* e (join a b)

  plain : (c d : ℕ) → Path⁺ p c d → Path* p c d
  unfolding Path⁺
  plain c d a = go* a.1 a.2

  first : (c d e : ℕ) → Path⁺ p c d → Path* p d e → Path⁺ p c e
  unfolding Path⁺
  first c d e a b = (a.0, a.1, join a.2 b)

  last : (c d e : ℕ) → Path* p c d → Path⁺ p d e → Path⁺ p c e
  unfolding Path⁺
  last c d e (stay* q) b = subst (λ (x : ℕ). Path⁺ p x e) q b
  last c d e (go* i a) b = (_, i, join a (plain d e b))

pub labels_are_strong_connection : LabelsAreStrongConnection
unfolding LabelsAreStrongConnection Connected
labels_are_strong_connection p ok =
    let fit = accepted-fit p (accepted p ok) in
    record {
      same = λ c d l k. (
        λ h.
            let a = (same-labels p fit c d l k).0 h in
            let circle = (cyclic-circle p fit c l).0 a.1 in
            (first p c c d circle a.0.0, last p d c c a.0.1 circle),
        λ h.
            (same-labels p fit c d l k).1 ((plain p c d h.0, plain p d c h.1), (cyclic-circle p fit c l).1 (first p c d c h.0 (plain p d c h.1))),
      );
      lowest = λ c l h.
          label-lowest p fit c l ((same-labels p fit c c l l).0 (refl, h)).1;
      reach = λ c l. reach-paths p fit c l;
    }

-- what a record row leads to, by the modules that pass
module _ (p : Project) (which : Target → List ℕ) (passes : ℕ → Bool)
    (tells : (row : ℕ) → which (resolved p.normal p.record_target row)
    ≡ cond (eqb (get_or p.record_target row 0) missing) [] (cond (passes (get_or p.record_target row 0)) (get_or p.record_target row 0 ∷ []) [])) where
  abbrev succ : ℕ → List ℕ
  succ = targets_of is_import which p.normal p.record_module p.record_kind p.record_target

  abbrev led : ℕ → List ℕ
  led = row_targets is_import which p.normal p.record_kind p.record_target

  row-led : (row t : ℕ) → get_or p.record_kind row 0 ≡ 0 → get_or p.record_target row 0 ≡ t → (t ≡ missing → ⊥) → passes t ≡ true → Memᴰ t (led row)
  row-led row t k e n g =
      let at : ℕ = get_or p.record_target row 0 in
      rw (eq-eqb (get_or p.record_kind row 0) 0 k)
      (rw (tells row)
      (rw (ne_eqb at missing (λ q. n (sym e ∙ q)))
      (rw (ap passes e ∙ g) (Memᴰ.head (sym e)))))

  led-row : (row t : ℕ) → Memᴰ t (led row) → (get_or p.record_kind row 0 ≡ 0) × (get_or p.record_target row 0 ≡ t) × (t ≡ missing → ⊥) × (passes t ≡ true)
  led-row row t h =
      let at : ℕ = get_or p.record_target row 0 in
      ⊎_elim
      (λ i.
      let h1 = subst (Memᴰ t) (tells row) (rw i at h) in
      ⊎_elim
      (λ j. absurd (Memᴰ.not-nil (rw j at h1)))
      (λ j.
      ⊎_elim
      (λ k.
      let o : t ≡ at = Memᴰ.eq_of_singleton (rw k at (rw j at h1)) in
      (eqb-true (get_or p.record_kind row 0) 0 i, sym o, (λ q. eqb-false at missing j (sym o ∙ q)), ap passes o ∙ k))
      (λ k. absurd (Memᴰ.not-nil (rw k at (rw j at h1))))
      (both (passes at)))
      (both (eqb at missing)))
      (λ i. absurd (Memᴰ.not-nil (rw i at h)))
      (both (is_import (get_or p.record_kind row 0)))

  mem-row : {m t : ℕ} → Memᴰ t (succ m) → ImportRow p passes m t
  unfolding targets_of
  mem-row {m} {t} h =
      let r = mem-flat led (rows_of p.record_module m) h in
      let o = mem-rows p.record_module m r.1 in
      let a = led-row r.0 t r.2 in
      record { row = r.0; there = o.0; from = o.1; kind = a.0; to = a.1; present = a.2; passed = a.3 }

  row-mem : {m t : ℕ} → ImportRow p passes m t → Memᴰ t (succ m)
  unfolding targets_of
  row-mem {m} {t} i =
      subst (λ (x : ℕ). Memᴰ t (succ x)) i.from
      (flat-mem led (rows_of p.record_module (get_or p.record_module i.row 0)) (rows-mem p.record_module i.row i.there) (row-led i.row t i.kind i.to i.present i.passed))

  reach-path : {m x : ℕ} → Reach succ m x → RecordPath p passes m x
  reach-path (here e) = stay e
  reach-path (step s q) = go (mem-row s) (reach-path q)

  path-reach : {m x : ℕ} → RecordPath p passes m x → Reach succ m x
  path-reach (stay e) = here e
  path-reach (go i q) = step (row-mem i) (path-reach q)

  -- a target has a module row
  target-in : Accepted p → (m t : ℕ) → m < modules p → Memᴰ t (succ m) → t < modules p
  target-in ok m t l h =
      let i = mem-row h in
      ⊎_elim (λ q. subst (λ (x : ℕ). x < modules p) i.to q) (λ q. absurd (i.present (sym i.to ∙ q)))
      (ok.values.record_target i.row (omega (arith, i.there, ok.sizes.record_target)))

-- a normal target passes if it is normal, any target passes everywhere

normal-tells : (p : Project) (row : ℕ) → normal_target (resolved p.normal p.record_target row)
    ≡ cond (eqb (get_or p.record_target row 0) missing) [] (cond (is_normal p.normal (get_or p.record_target row 0)) (get_or p.record_target row 0 ∷ []) [])
unfolding resolved
normal-tells p row =
    let t : ℕ = get_or p.record_target row 0 in
    ⊎_elim (λ (j : eqb t missing ≡ true). rw j)
    (λ (j : eqb t missing ≡ false). ⊎_elim (λ (k : is_normal p.normal t ≡ true). rw (j, k)) (λ (k : is_normal p.normal t ≡ false). rw (j, k)) (both (is_normal p.normal t)))
    (both (eqb t missing))

any_tells : (p : Project) (row : ℕ) → any_target (resolved p.normal p.record_target row)
    ≡ cond (eqb (get_or p.record_target row 0) missing) [] (cond (everywhere (get_or p.record_target row 0)) (get_or p.record_target row 0 ∷ []) [])
unfolding resolved
any_tells p row =
    let t : ℕ = get_or p.record_target row 0 in
    ⊎_elim (λ (j : eqb t missing ≡ true). rw j)
    (λ (j : eqb t missing ≡ false). ⊎_elim (λ (k : is_normal p.normal t ≡ true). rw (j, k)) (λ (k : is_normal p.normal t ≡ false). rw (j, k)) (both (is_normal p.normal t)))
    (both (eqb t missing))

-- a root is an analysed entry
root-analysed : (p : Project) (root : ℕ) → Memᴰ root (roots p) → is_analysed p root ≡ true
unfolding is_analysed analysed
root-analysed p root h =
    let q = Memᴰ.of_map (λ (row : ℕ). get_or p.entry row 0) (keep (analysed_row p) (up_to (length p.entry))) h in
    let k = mem-keep (analysed_row p) (up_to (length p.entry)) q.1 in
    mem-any (analysed_row p) (rows_of p.entry root) (subst (λ (x : ℕ). Memᴰ q.0 (rows_of p.entry x)) q.2 (rows-mem p.entry q.0 (mem-up_to k.0))) k.1

pub reached_is_a_path : ReachedIsAPath
unfolding ReachedIsAPath reached ReachAny
reached_is_a_path p ok m =
    let a = accepted p ok in
    let inside = target-in p normal_target (is_normal p.normal) (normal-tells p) a in
    let order : List ℕ = post_order (normal_imports p) everywhere (modules p) (roots p) in (
      λ h.
          let r = all-reach (normal_imports p) (modules p) inside (roots p) (λ x k. (root_in p a x k).0) m (elem_mem m order h) in
          (r.0, root-analysed p r.0 r.1, reach-path p normal_target (is_normal p.normal) (normal-tells p) r.2),
      λ h.
          mem-elem m order
          (reach-all (normal_imports p) (modules p) inside (roots p) (λ x k. (root_in p a x k).0) m
          (h.0, analysed-root p h.0 h.1, path-reach p normal_target (is_normal p.normal) (normal-tells p) h.2)),
    )

pub leads_is_a_path : LeadsIsAPath
unfolding LeadsIsAPath leads ReachAny
leads_is_a_path p ok S t l =
    let a = accepted p ok in
    let inside = target-in p any_target everywhere (any_tells p) a in
    let start : (r : ℕ) → Memᴰ r (t ∷ []) → r < modules p = λ r k. subst (λ (x : ℕ). x < modules p) (sym (Memᴰ.eq_of_singleton k)) l in
    let order : List ℕ = post_order (imports_of p) everywhere (modules p) (t ∷ []) in (
      λ h.
          let x = any-mem (has S) order h in
          let r = all-reach (imports_of p) (modules p) inside (t ∷ []) start x.0 x.1 in
          (x.0, subst (λ (y : ℕ). RecordPath p everywhere y x.0) (Memᴰ.eq_of_singleton r.1) (reach-path p any_target everywhere (any_tells p) r.2), x.2),
      λ h.
          mem-any (has S) order
          (reach-all (imports_of p) (modules p) inside (t ∷ []) start h.0 (t, Memᴰ.head refl, path-reach p any_target everywhere (any_tells p) h.1)) h.2,
    )
