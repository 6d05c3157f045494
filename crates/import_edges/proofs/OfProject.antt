-- A project's import records as edges.
-- Assumes nothing.
use Rattle.std.specs.Prelude.{◌≡◌, ℕ, ◌<◌, Bool, cond, List, length, get_or}
use mathlib.Core.Path.{sym, ap, subst, ◌∙◌}
use mathlib.Core.Logic.{⊎_elim}
use native.Mathlib.Omega.{arith}
use borrow.Author.Tests.{eq-eqb, eqb-true}
use Rattle.lists.proofs.Laws.{both}
use Rattle.tables.specs.Project.{Project, missing}
use Rattle.tables.specs.Readings.{modules, is_import}
use Rattle.tables.specs.Accepted.{Accepted}
use Rattle.strong_connection.specs.inner.Graph.{Graph}
use Rattle.import_edges.specs.inner.Spread.{record_targets, EdgesOf}
use Rattle.import_edges.proofs.Edging.{target_at}

module _ (p : Project) (ok : Accepted p) where
  -- a row whose target is a module is a kind 0 record to it
  pub target_row : (row : ℕ) → row < length p.record_module → get_or (record_targets p) row 0 < modules p
      → (get_or p.record_kind row 0 ≡ 0) × (get_or p.record_target row 0 ≡ get_or (record_targets p) row 0) × (get_or p.record_target row 0 ≡ missing → ⊥)
  target_row row l k =
      let e : get_or (record_targets p) row 0 ≡ cond (is_import (get_or p.record_kind row 0)) (get_or p.record_target row 0) missing = target_at p.record_kind p.record_target row 0 (omega (arith, ok.sizes.record_target)) in
      ⊎_elim
      (λ q. let f : get_or (record_targets p) row 0 ≡ get_or p.record_target row 0 = e ∙ ap (λ (b : Bool). cond b (get_or p.record_target row 0) missing) q in (eqb-true (get_or p.record_kind row 0) 0 q, sym f, λ z. omega (arith, k, f ∙ z, ok.sizes.normal)))
      (λ q. let f : get_or (record_targets p) row 0 ≡ missing = e ∙ ap (λ (b : Bool). cond b (get_or p.record_target row 0) missing) q in absurd (omega (arith, k, f, ok.sizes.normal)))
      (both (is_import (get_or p.record_kind row 0)))

  pub row_target : (row : ℕ) → row < length p.record_module → get_or p.record_kind row 0 ≡ 0 → get_or (record_targets p) row 0 ≡ get_or p.record_target row 0
  row_target row l e =
      target_at p.record_kind p.record_target row 0 (omega (arith, ok.sizes.record_target)) ∙ ap (λ (b : Bool). cond b (get_or p.record_target row 0) missing) (eq-eqb (get_or p.record_kind row 0) 0 e)

  -- the edges lie between modules
  pub edges-graph : (importers edge_targets : List ℕ) → length edge_targets ≡ length importers → EdgesOf p importers edge_targets (length importers) → Graph importers edge_targets (modules p)
  edges-graph importers edge_targets n g = record {
    lengths = n;
    froms = λ i l. let r = g.row i l in subst (λ (x : ℕ). x < modules p) r.2 (ok.values.record_module r.0 r.1);
    tos = λ i l. let r = g.row i l in subst (λ (x : ℕ). x < modules p) r.3 (inside r.0 r.1 r.4);
  }
    where
      inside : (row : ℕ) → row < length p.record_module → (get_or (record_targets p) row 0 ≡ missing → ⊥) → get_or (record_targets p) row 0 < modules p
      inside row l n =
          let e : get_or (record_targets p) row 0 ≡ cond (is_import (get_or p.record_kind row 0)) (get_or p.record_target row 0) missing = target_at p.record_kind p.record_target row 0 (omega (arith, ok.sizes.record_target)) in
          ⊎_elim
          (λ q.
          let f : get_or (record_targets p) row 0 ≡ get_or p.record_target row 0 = e ∙ ap (λ (b : Bool). cond b (get_or p.record_target row 0) missing) q in
          ⊎_elim (λ k. subst (λ (x : ℕ). x < modules p) (sym f) k) (λ z. absurd (n (f ∙ z))) (ok.values.record_target row (omega (arith, ok.sizes.record_target))))
          (λ q. absurd (n (e ∙ ap (λ (b : Bool). cond b (get_or p.record_target row 0) missing) q)))
          (both (is_import (get_or p.record_kind row 0)))
