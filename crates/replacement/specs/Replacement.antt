-- "Each module row gains a last field `newer`, the module that supersedes it, or `-`."
-- Assumes nothing.
use Rattle.std.specs.Prelude.{cond, List, map, ℕ, zero, suc, length, get_or, eqb}
use Rattle.tables.specs.Project.{missing}

-- "read through it until a module with `-` is reached", k steps at most; the mark itself stays
unfoldable pub through : List ℕ → ℕ → ℕ → ℕ
through newer zero m = m
through newer (suc k) m = cond (eqb (get_or newer m missing) missing) m (through newer k (get_or newer m missing))

-- the module that is read for m: no chain is longer than the modules are many
unfoldable pub latest : List ℕ → ℕ → ℕ
latest newer m = through newer (length newer) m

-- a column as it is read
abbrev pub as_read : List ℕ → List ℕ → List ℕ
as_read newer column = map (latest newer) column
