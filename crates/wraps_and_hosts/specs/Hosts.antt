-- The host of a module by the noted ones.
-- Assumes nothing.
use Rattle.std.specs.Prelude.{ℕ, cond, List, ◌==◌, slice_index_or}
use Rattle.tables.specs.Project.{missing}

-- a module's "host, itself where it is its own": the noted one, else the module
abbrev pub host_by : List ℕ → ℕ → ℕ
host_by noted m = cond (slice_index_or noted m missing == missing) m (slice_index_or noted m missing)
