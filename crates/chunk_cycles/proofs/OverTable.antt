-- The labels of a project, and what the functions over a table ask of its columns.
-- Assumes nothing.
use Rattle.std.specs.Prelude.{◌≡◌, ℕ, Bool, List, length}
use mathlib.Core.Path.{sym, ap, subst, ◌∙◌}
use native.Mathlib.Omega.{arith}
use Rattle.lists.proofs.Laws.{length-map-up_to}
use Rattle.tables.specs.Project.{Project}
use Rattle.tables.specs.Readings.{chunks}
use Rattle.tables.specs.Accepted.{Accepted}
use Rattle.strong_connection.specs.Cycles.{label, labels, reaches_cycle}
use Rattle.chunk_cycles.specs.Cycles.{imported_by, labels_of, cyclic_of, reaches_cycle_of}
use Rattle.component_labels.specs.inner.Labelling.{ChunksLabelled}
use Rattle.chunk_cycles.specs.inner.OverTable.{ImportsFit, TableLabelled, Reaching}

-- the import rows of an accepted project are a graph over its chunks
pub accepted-fit : (p : Project) → Accepted p → ImportsFit p
accepted-fit p a = record {
  few = a.sizes.order;
  rows = a.sizes.import_chunk;
  graph = record {
    lengths = a.sizes.imports;
    froms = a.values.import_chunk;
    tos = λ i l. a.values.imports i (omega (arith, a.sizes.imports));
  };
}

module _ (p : Project) where
  pub length-labels : length (labels_of p) ≡ chunks p
  unfolding labels_of labels
  length-labels = length-map-up_to (label (chunks p) (imported_by p)) (chunks p)

  pub table-labelled : (n : ℕ) → n ≡ chunks p → {made : List ℕ} {count : ℕ} → ChunksLabelled n (imported_by p) made count → TableLabelled p made count
  unfolding labels_of cyclic_of
  table-labelled n e {made} {count} h = let k = subst (λ (i : ℕ). ChunksLabelled i (imported_by p) made count) e h in record { same = k.same; cyclics = k.cyclics }

  module _ (marks : List ℕ) (c : ℕ) (r : Reaching p marks c) where
    pub reaching-length : length marks ≡ chunks p
    reaching-length = ap length r.same ∙ length-labels

    pub reaching-labels : marks ≡ labels (length marks) (imported_by p)
    unfolding labels_of
    reaching-labels = r.same ∙ ap (λ (n : ℕ). labels n (imported_by p)) (sym reaching-length)

    pub reaching-said : (b : Bool) → b ≡ reaches_cycle (length marks) (imported_by p) c → b ≡ reaches_cycle_of p c
    unfolding reaches_cycle_of
    reaching-said b e = e ∙ ap (λ (n : ℕ). reaches_cycle n (imported_by p) c) reaching-length
