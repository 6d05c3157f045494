-- A run that is written to two slices.
-- Assumes nothing.
use Rattle.std.specs.Prelude.{◌≡◌, ℕ, List, ◌++◌, length, drop}
use Rattle.tables.specs.Project.{Project}
use Rattle.takings.specs.Taking.{Run}
use Rattle.worklist_taking.specs.inner.State.{rule_of, start_of}

-- the list and its lengths, from place 0
pub record RunWritten (p : Project) (seeds list lengths list' lengths' : List ℕ) (r : ℕ) : Type 0 where
  pub members : List ℕ
  pub sizes : List ℕ
  pub run : Run (rule_of p) (start_of p seeds) members sizes
  pub count : r ≡ length members
  pub listed : list' ≡ members ++ drop (length members) list
  pub measured : lengths' ≡ sizes ++ drop (length sizes) lengths
