-- "Whole analysis": "the plan from all analysed entries' risks and the seed rows, which together are its seeds", and what its operation promises.
-- Assumes nothing.
use Rattle.std.specs.Prelude.{◌≡◌, ℕ, true, List, ◌++◌, length, nat_le, Option, Result}
use mathlib.Core.List.{flat_map}
use Rattle.lists.specs.Words.{up_to, keep, has, ones}
use Rattle.tables.specs.Project.{Project}
use Rattle.tables.specs.Readings.{modules}
use Rattle.tables.specs.Answers.{verdict, answer, after}
use Rattle.tables.specs.declared.Refusal.{Refusal}
use Rattle.table.specs.Table.{Lent}
use Rattle.at_risk.specs.Promise.{risk_of_entry}
use Rattle.wrap_rules.specs.Plan.{roots}
use Rattle.wrap_plan.specs.Promise.{plan_of}

-- the members of a set of marks, rising
abbrev pub members_of_set : List ℕ → List ℕ
members_of_set S = keep (has S) (up_to (length S))

-- "all analysed entries' risks and the seed rows"
unfoldable pub seeds_of : Project → List ℕ
seeds_of p = flat_map (λ (root : ℕ). members_of_set (risk_of_entry p root)) (roots p) ++ p.seed

-- the plan of the whole analysis: 0 or 1 for each module
unfoldable pub whole_plan : Project → List ℕ
whole_plan p = plan_of p (seeds_of p)

-- what refuses a call: 6 for a short output, and never 5
abbrev pub whole_verdict : Lent → ℕ → Option Refusal
whole_verdict t room = verdict t.refused true (nat_le (modules t.project) room)

-- a call's answer, and the slice that it leaves
pub record WholeAnalysis (t : Lent) (marks : List ℕ) (r : Result ℕ Refusal) (marks' : List ℕ) : Type 0 where
  pub answered : r ≡ answer (whole_verdict t (length marks)) (ones (whole_plan t.project))
  pub written : marks' ≡ after (whole_verdict t (length marks)) marks (whole_plan t.project)
