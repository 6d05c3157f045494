-- Whom a flagged module puts at risk: the term in which the code's loop speaks.
-- Assumes nothing.
use Rattle.std.specs.Prelude.{ℕ, Bool, cond, List, slice_index_or}
use Rattle.tables.specs.Project.{missing}

-- "A flagged eligible module is at risk; else its host, if noted": the module itself, its host, or the mark
abbrev pub blamed : (ℕ → Bool) → List ℕ → ℕ → ℕ
blamed eligible hosts x = cond (eligible x) x (slice_index_or hosts x missing)
