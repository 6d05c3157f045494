-- What the four rules read of an accepted project, as slices hold it.
-- Assumes nothing.
use Rattle.std.specs.Prelude.{◌≡◌, ℕ, List, length}
use Rattle.tables.specs.Project.{Project}
use Rattle.tables.specs.Readings.{modules}
use Rattle.tables.specs.Accepted.{Accepted}
use Rattle.chunk_cycles.specs.Cycles.{labels_of}
use Rattle.wrap_rules.specs.Plan.{roots}
use Rattle.wrap_rules.specs.inner.Passes.{candidate_marks}
use Rattle.strong_connection.specs.inner.Graph.{EdgeColumns, Graph}
use Rattle.import_edges.specs.inner.Spread.{EdgesOf}

-- the chunks' labels
pub record Labelled (p : Project) (labels : List ℕ) : Type 0 where
  pub accepted : Accepted p
  pub label : labels ≡ labels_of p

-- the roots
pub record Rooted (p : Project) (root_list : List ℕ) : Type 0 where
  pub accepted : Accepted p
  pub root : root_list ≡ roots p

-- the reached eligible modules
pub record Reached (p : Project) (candidates : List ℕ) : Type 0 where
  pub accepted : Accepted p
  pub candidate_set : candidates ≡ candidate_marks p

-- the import records as edges from target to importer
pub record Edged (p : Project) (g : EdgeColumns) : Type 0 where
  pub edges : EdgesOf p g.to g.from (length g.to)
  pub graph : Graph g.from g.to (modules p)
  pub places : g.places ≡ modules p

-- all of one project
pub record Joined (p rooted reached : Project) (imports : EdgeColumns) : Type 0 where
  pub accepted : Accepted p
  pub root_sets : rooted ≡ p
  pub reached_set : reached ≡ p
  pub edged : Edged p imports
