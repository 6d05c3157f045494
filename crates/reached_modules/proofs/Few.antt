-- No entry stands twice, so that there are no more entries than modules.
-- Assumes nothing.
use Rattle.std.specs.Prelude.{◌≤◌, length}
use native.Mathlib.Omega.{arith}
use Rattle.lists.proofs.Members.{mem-at}
use Rattle.lists.proofs.Distinct.{few-distinct}
use Rattle.tables.specs.Project.{Project}
use Rattle.tables.specs.Readings.{modules}
use Rattle.tables.specs.Accepted.{Accepted}

pub entries-few : (p : Project) → Accepted p → length p.entry ≤ modules p
entries-few p ok =
    few-distinct (modules p) p.entry ok.agrees.entry
    (λ x t. let a = mem-at p.entry t in omega (arith, ok.values.entry a.0 a.1, a.2))
