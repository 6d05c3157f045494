-- What the functions of this crate ask and ensure.
-- Assumes nothing.
use Rattle.std.specs.Prelude.{◌≡◌, ℕ, ◌<◌, ◌≤◌, Bool, ◌&&◌, List, length, slice_index_or}
use Rattle.lists.specs.Words.{has}
use Rattle.tables.specs.Project.{Project, missing}
use Rattle.tables.specs.Readings.{chunks}
use Rattle.tables.specs.Refusal.{chunk_limit, row_limit}
use Rattle.strong_connection.specs.inner.Graph.{Graph}
use Rattle.component_labels.specs.inner.Labelling.{labelled}
use Rattle.chunk_cycles.specs.Cycles.{labels_of, cyclic_of}

-- d is marked and has a label
abbrev pub labelled_at : List ℕ → List ℕ → ℕ → Bool
labelled_at marks labels d = has marks d && labelled (slice_index_or labels d missing)

-- a project's import rows are a graph over its chunks, within 01's limits
pub record ImportsFit (p : Project) : Type 0 where
  pub few : chunks p ≤ chunk_limit
  pub rows : length p.import_chunk ≤ row_limit
  pub graph : Graph p.import_chunk p.imports (chunks p)

-- every chunk is labelled, and the cyclic ones are counted
pub record TableLabelled (p : Project) (labels : List ℕ) (count : ℕ) : Type 0 where
  pub same : labels ≡ labels_of p
  pub cyclics : count ≡ length (cyclic_of p)

-- the labels of an accepted project, and a chunk with a row
pub record Reaching (p : Project) (labels : List ℕ) (chunk : ℕ) : Type 0 where
  pub same : labels ≡ labels_of p
  pub there : chunk < chunks p
