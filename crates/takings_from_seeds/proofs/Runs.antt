-- Each member of a run stands there once and is a module, so that a run is no longer than there are modules.
-- Assumes nothing.
use Rattle.std.specs.Prelude.{ℕ, ◌≤◌, List, length}
use native.Mathlib.Omega.{arith}
use Rattle.lists.proofs.Laws.{mem-elem}
use Rattle.lists.proofs.Distinct.{few-distinct}
use Rattle.tables.specs.Project.{Project}
use Rattle.tables.specs.Readings.{modules}
use Rattle.chunk_cycles.specs.Cycles.{labels_of}
use Rattle.wrap_rules.specs.Plan.{orders_of}
use Rattle.wrap_rules.proofs.Plans.{start-length}
use Rattle.takings.proofs.Takings.{last}
use Rattle.takings_from_seeds.specs.Promise.{RunOf}

pub run_length : (p : Project) (seeds list lengths : List ℕ) → RunOf p seeds list lengths → length list ≤ modules p
run_length p seeds list lengths r =
    let t = last r.all in
    few-distinct (modules p) list t.once (λ x h. omega (arith, t.inside x (mem-elem x list h), start-length (orders_of p) (labels_of p) p seeds))
