-- What a whole run of a load leaves.
-- Assumes nothing.
use Rattle.std.specs.Prelude.{ℕ, List}
use Rattle.tables.specs.Project.{Project}
use Rattle.entry_run.specs.inner.Cores.{Written}
use Rattle.planned_load.specs.Steps.{step_modules, step_hosts}

-- the steps' modules and hosts are written
pub record Stepped (p : Project) (plan : List ℕ) (root : ℕ) (steps hosts steps' hosts' : List ℕ) (r : ℕ) : Type 0 where
  pub listed : Written (step_modules p plan root) steps steps' r
  pub hosted : Written (step_hosts p plan root) hosts hosts' r
