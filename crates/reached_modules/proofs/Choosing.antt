-- The roots as they are listed, and the candidates that are chosen.
-- Assumes nothing.
use Rattle.std.specs.Prelude.{◌≡◌, ℕ, ◌≤◌, List, length, take, drop}
use mathlib.Core.Path.{sym, ap, subst, ◌∙◌}
use native.Mathlib.Omega.{arith}
use lib.Seq.{take_at}
use Rattle.tables.specs.Project.{Project, missing}
use Rattle.tables.specs.Readings.{modules, analysed}
use Rattle.tables.specs.Accepted.{Accepted}
use Rattle.wrap_rules.specs.Plan.{roots}
use Rattle.strong_connection.specs.inner.Graph.{Graph}
use Rattle.import_edges.specs.inner.Spread.{record_targets}
use Rattle.reached_modules.specs.inner.Roots.{Written, Chosen, Choosing}
use Rattle.wrap_rules.specs.inner.Passes.{candidate_marks}
use Rattle.reached_modules.proofs.Listing.{roots_few}
use Rattle.import_edges.proofs.Edging.{edges-rows, rows-edges}
use Rattle.reached_modules.proofs.Reached.{chosen-rows, chosen-candidates}
use Rattle.import_edges.proofs.OfProject.{edges-graph}

-- there are no more roots than entries
pub few-roots : (p : Project) → Accepted p → length (roots p) ≤ 16384
unfolding analysed
few-roots p ok = omega (arith, roots_few p (length p.entry), ok.sizes.entry)

-- a list that was written to a slice, read back as far as its count says
pub written_read : {list old new : List ℕ} {r : ℕ} → Written list old new r → take r new ≡ list
written_read {list} {old} {new} {r} w = ap (take r) w.written ∙ take_at list (drop (length list) old) r (sym w.count)

module _ (p : Project) (ok : Accepted p) (importers targets root_list eligibles old : List ℕ) (g : Choosing p importers targets root_list eligibles old) where
  -- the candidates that are chosen
  pub candidates-made : (candidates : List ℕ) → Chosen p.included root_list importers targets eligibles old candidates → candidates ≡ candidate_marks p
  candidates-made candidates h =
      let few : modules p ≤ missing = omega (arith, ok.sizes.normal) in
      chosen-candidates p ok old candidates g.size g.bits
      (subst (λ (s : List ℕ). Chosen p.included (roots p) p.record_module (record_targets p) s old candidates) g.eligible_set
      (subst (λ (s : List ℕ). Chosen p.included s p.record_module (record_targets p) eligibles old candidates) g.root
      (chosen-rows p.included root_list p.record_module (record_targets p) importers targets eligibles old candidates (modules p) g.size
      (rows-edges p.record_module (record_targets p) importers targets (modules p) few g.edges)
      (edges-rows p.record_module (record_targets p) importers targets (modules p) few g.edges)
      h)))

  -- the graph that they are chosen by
  pub choosing-graph : Graph importers targets (modules p)
  choosing-graph = edges-graph p ok importers targets g.lengths g.edges
