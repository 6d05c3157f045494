-- What the core functions of the whole analysis ask, at a project.
-- Assumes nothing.
use Rattle.std.specs.Prelude.{ℕ, Bool}
use Rattle.lists.specs.Words.{any, has}
use Rattle.tables.specs.Project.{Project}
use Rattle.at_risk.specs.Promise.{risk_of_entry}
use Rattle.wrap_rules.specs.Plan.{roots}

-- the risks of the analysed entries
abbrev pub risks_of : Project → ℕ → Bool
risks_of p m = any (λ (root : ℕ). has (risk_of_entry p root) m) (roots p)
