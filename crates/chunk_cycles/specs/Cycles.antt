-- "Cyclic chunks" of a project: labels and chunk reach.
-- Assumes nothing.
use Rattle.std.specs.Prelude.{ℕ, Bool, List, slice_index_or}
use Rattle.lists.specs.Words.{up_to, keep}
use Rattle.tables.specs.Project.{Project, missing}
use Rattle.tables.specs.Readings.{chunks, values_of}
use Rattle.strong_connection.specs.Cycles.{cyclic, labels, reaches_cycle}

-- the chunks that the import rows of a chunk name, as written
abbrev pub imported_by : Project → ℕ → List ℕ
imported_by p = values_of p.import_chunk p.imports

unfoldable pub labels_of : Project → List ℕ
labels_of p = labels (chunks p) (imported_by p)

-- the label of a chunk, the mark where it has no row
abbrev pub label_at : Project → ℕ → ℕ
label_at p c = slice_index_or (labels_of p) c missing

-- the chunks that are cyclic, by rising row
unfoldable pub cyclic_of : Project → List ℕ
cyclic_of p = keep (cyclic (chunks p) (imported_by p)) (up_to (chunks p))

unfoldable pub reaches_cycle_of : Project → ℕ → Bool
reaches_cycle_of p c = reaches_cycle (chunks p) (imported_by p) c
