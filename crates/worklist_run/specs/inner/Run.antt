-- Where a run ends.
-- Assumes nothing.
use Rattle.std.specs.Prelude.{ℕ, List}
use Rattle.tables.specs.Project.{Project}
use Rattle.worklist.specs.inner.Taking.{TakenAll}

-- the run of a list with these places
pub record Ran (p : Project) (seeds placed' lengths lengths' : List ℕ) (count : ℕ) : Type 0 where
  pub list : List ℕ
  pub taken : TakenAll p seeds placed' list lengths lengths' count
