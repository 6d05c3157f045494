-- The edges of the import records are the records themselves; all edges in turn.
-- Assumes nothing.
use Rattle.std.specs.Prelude.{◌≡◌, ℕ, ◌+◌, ◌<◌, ◌≤◌, List, length, get_or}
use mathlib.Core.Path.{sym, ap, subst, ◌∙◌}
use mathlib.Core.Logic.{⊎_map}
use native.Mathlib.Omega.{arith}
use Rattle.lists.proofs.Laws.{get_d-map-up_to, length-map-up_to}
use Rattle.tables.specs.Project.{Project}
use Rattle.tables.specs.Readings.{modules}
use Rattle.tables.specs.Accepted.{Accepted}
use Rattle.tables.specs.Refusal.{row_limit}
use Rattle.chunk_cycles.specs.Cycles.{labels_of}
use Rattle.sensitivity.specs.Marks.{sensitive_marks}
use Rattle.eligibility.specs.Eligible.{eligible_marks}
use Rattle.wrap_rules.specs.inner.Passes.{candidate_marks}
use Rattle.import_edges.specs.inner.Spread.{record_targets}
use Rattle.import_edges.proofs.Edging.{length-targets}
use Rattle.request_edges.specs.inner.Edges.{numbered, chosen, Rows, EdgeRows, Adds}
use Rattle.request_edges.proofs.Adding.{adds_on, adds-as}
use Rattle.request_graph.specs.inner.Requests.{at_lead, ImportRows, LeadRows, ComponentEdge, ImportEdge, SymbolEdge, RequestEdge, Requests}

module _ (p : Project) (ok : Accepted p) {importers targets : List ℕ} (g : ImportRows p importers targets) where
  -- no more than a list has
  pub few-rows : length importers ≤ row_limit
  few-rows = omega (arith, g.edges.few, ok.sizes.record_module)

  abbrev Led : ℕ → ℕ → Type 0
  Led u v = Rows targets at_lead importers at_lead u v

  abbrev Recorded : ℕ → ℕ → Type 0
  Recorded u v = Rows (record_targets p) at_lead p.record_module at_lead u v

  import-rows : (u v : ℕ) → Led u v → Recorded u v
  import-rows u v e =
      let r = g.edges.row e.row (omega (arith, e.there, g.lengths)) in
      record {
        row = r.0;
        there = omega (arith, r.1, length-targets p.record_kind p.record_target, ok.sizes.record_target);
        known = subst (λ (x : ℕ). x < row_limit) (sym r.3) e.known;
        aimed = subst (λ (x : ℕ). x < row_limit) (sym r.2) e.aimed;
        source = ap (λ (x : ℕ). x + at_lead) r.3 ∙ e.source;
        target = ap (λ (x : ℕ). x + at_lead) r.2 ∙ e.target;
      }

  rows-import : (u v : ℕ) → Recorded u v → Led u v
  rows-import u v e =
      let r = g.edges.edge e.row (omega (arith, e.there, length-targets p.record_kind p.record_target, ok.sizes.record_target)) (λ z. omega (arith, z, e.known)) in
      record {
        row = r.0;
        there = omega (arith, r.1, g.lengths);
        known = subst (λ (x : ℕ). x < row_limit) (sym r.3) e.known;
        aimed = subst (λ (x : ℕ). x < row_limit) (sym r.2) e.aimed;
        source = ap (λ (x : ℕ). x + at_lead) r.3 ∙ e.source;
        target = ap (λ (x : ℕ). x + at_lead) r.2 ∙ e.target;
      }

  -- so adding the ones adds the others
  pub import-edges : (numbers : List ℕ) {e e' : EdgeRows} → Adds (LeadRows importers targets p.dependency_module p.dependency numbers) 36864 e e' → Adds (ImportEdge p numbers) 36864 e e'
  import-edges numbers = adds-as (omega arith) (λ u v. ⊎_map (λ x. x) (⊎_map (import-rows u v) (λ x. x))) (λ u v. ⊎_map (λ x. x) (⊎_map (rows-import u v) (λ x. x)))

-- the numbers below n

pub length-numbered : (n : ℕ) → length (numbered n) ≡ n
unfolding numbered
length-numbered n = length-map-up_to (λ (i : ℕ). i) n

pub numbered-at : (n i d : ℕ) → i < n → get_or (numbered n) i d ≡ i
unfolding numbered
numbered-at n i d l = get_d-map-up_to (λ (i : ℕ). i) n i d l

-- the edges of (ii), then those of (iii), then those of (iv)
pub requests-on : (p : Project) → {e e₁ e₂ e₃ : EdgeRows} → Adds (ComponentEdge p (labels_of p) (numbered (modules p)) (chosen (sensitive_marks p) (eligible_marks p))) 20480 e e₁
    → Adds (ImportEdge p (numbered (modules p))) 36864 e₁ e₂ → Adds (SymbolEdge p (candidate_marks p)) 98304 e₂ e₃ → Requests p e e₃
unfolding RequestEdge
requests-on p v w z = adds_on {j = 20480} {k = 135168} v (adds_on {j = 36864} {k = 98304} w z)
