-- Labels and chunk reach read no column that a replacement changes.
-- Assumes nothing.
use Rattle.std.specs.Prelude.{◌≡◌, ℕ, List}
use mathlib.Core.Path.{refl}
use Rattle.tables.specs.Project.{Project}
use Rattle.table.specs.Table.{read, current}
use Rattle.chunk_cycles.specs.Cycles.{labels_of, cyclic_of, reaches_cycle_of}
use Rattle.chunk_cycles.specs.inner.OverTable.{TableLabelled}

-- chunks are read as they are written
module _ (p : Project) where
  pub labels-read : (made : List ℕ) (count : ℕ) → TableLabelled p made count → TableLabelled (current p) made count
  unfolding current read labels_of cyclic_of
  labels-read made count l = record { same = l.same; cyclics = l.cyclics }

  pub reach-read : (chunk : ℕ) → reaches_cycle_of (current p) chunk ≡ reaches_cycle_of p chunk
  unfolding current read reaches_cycle_of
  reach-read chunk = refl
