-- "Simulate the actual order of an analysed entry with every planned module's wrap read as 2 and other wraps as written": the run, and its steps.
-- Assumes nothing.
use Rattle.std.specs.Prelude.{ℕ, zero, suc, List, [], ◌∷◌, map, Option, None, Some}
use Rattle.tables.specs.Project.{Project}
use Rattle.entry_run.specs.Actual.{Executed, run_of, read_as_two}
use Rattle.wraps_and_hosts.specs.Hosts.{host_by}
use Rattle.planned_load.specs.declared.LoadStep.{LoadStep}

-- the run of a root, a plan carried out
unfoldable pub planned_run : Project → List ℕ → ℕ → Executed
planned_run p plan root = run_of p (read_as_two plan p.wrap) root

-- "One step lists exactly the next module of that order and its host": step n of a list, nothing "when none is left"
abbrev pub step_at : List ℕ → List ℕ → ℕ → Option LoadStep
step_at noted [] n = None
step_at noted (m ∷ listed) zero = Some (record { «module» = m; host = host_by noted m })
step_at noted (m ∷ listed) (suc n) = step_at noted listed n

-- step n of an entry's load with a plan
unfoldable pub step_of : Project → List ℕ → ℕ → ℕ → Option LoadStep
step_of p plan root n = step_at (planned_run p plan root).hosts (planned_run p plan root).listed n

-- the modules of all steps, in order
unfoldable pub step_modules : Project → List ℕ → ℕ → List ℕ
step_modules p plan root = (planned_run p plan root).listed

-- their hosts
unfoldable pub step_hosts : Project → List ℕ → ℕ → List ℕ
step_hosts p plan root = map (host_by (planned_run p plan root).hosts) (planned_run p plan root).listed
