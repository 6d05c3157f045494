-- What leads to a planned module, by paths along the import records.
-- Assumes nothing.
use mathlib.Core.Path.{◌≡◌, refl, sym, subst, ◌∙◌}
use mathlib.Core.Logic.{⊎_elim}
use mathlib.Core.Bool.{true}
use mathlib.Core.List.Memᴰ
use mathlib.Core.List.{List, [], ◌∷◌, Memᴰ}
use Prim.Native.Nat.{ℕ, ◌<◌}
use native.Mathlib.Omega.{arith}
use Rattle.lists.specs.Words.{has}
use Rattle.lists.proofs.Laws.{any-mem, mem-any}
use Rattle.walk.specs.Walk.{everywhere, post_order}
use Rattle.walk.specs.Reach.{Reach, ReachAny}
use Rattle.walk.proofs.Orders.{all-reach, reach-all}
use Rattle.tables.specs.Project.{Project}
use Rattle.tables.specs.Readings.{modules}
use Rattle.tables.specs.Accepted.{Accepted}
use Rattle.wrap_rules.specs.Rules.{imports_of, leads}
use Rattle.wrap_rules.proofs.Rows.{import-row}

module _ (p : Project) (ok : Accepted p) where
  pub import-in : (m y : ℕ) → Memᴰ y (imports_of p m) → y < modules p
  import-in m y h =
      let r = import-row p m h in
      ⊎_elim (λ l. subst (λ (x : ℕ). x < modules p) r.4 l) (λ z. absurd (r.5 (sym r.4 ∙ z))) (ok.values.record_target r.0 (omega (arith, r.1, ok.sizes.record_target)))

  module _ (S : List ℕ) (t : ℕ) (l : t < modules p) where
    single : (r : ℕ) → Memᴰ r (t ∷ []) → r < modules p
    single r h = subst (λ (x : ℕ). x < modules p) (sym (Memᴰ.eq_of_singleton h)) l

    pub leads-reach : leads p S t ≡ true → (x : ℕ) × (has S x ≡ true) × Reach (imports_of p) t x
    unfolding leads ReachAny
    leads-reach e =
        let a = any-mem (has S) (post_order (imports_of p) everywhere (modules p) (t ∷ [])) e in
        let r = all-reach (imports_of p) (modules p) (λ m y k. import-in m y) (t ∷ []) single a.0 a.1 in
        (a.0, a.2, subst (λ (m : ℕ). Reach (imports_of p) m a.0) (Memᴰ.eq_of_singleton r.1) r.2)

    pub reach_leads : (x : ℕ) → has S x ≡ true → Reach (imports_of p) t x → leads p S t ≡ true
    unfolding leads ReachAny
    reach_leads x e r =
        mem-any (has S) (post_order (imports_of p) everywhere (modules p) (t ∷ []))
        (reach-all (imports_of p) (modules p) (λ m y k. import-in m y) (t ∷ []) single x (t, Memᴰ.head refl, r)) e
