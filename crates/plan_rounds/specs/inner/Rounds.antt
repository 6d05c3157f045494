-- What closing a plan asks and ensures, at a project.
-- Assumes nothing.
use Rattle.std.specs.Prelude.{Bool, List, ℕ}
use Rattle.walk.specs.Close.{close}
use Rattle.tables.specs.Project.{Project}
use Rattle.chunk_cycles.specs.Cycles.{labels_of}
use Rattle.wrap_rules.specs.Plan.{orders_of, asked}
use Rattle.wrap_rules.specs.inner.Passes.{Passed, Marked}
use Rattle.suffix_rule.specs.inner.Suffix.{Settling}
use Rattle.import_rule.specs.inner.Imports.{Leading}

-- what holds of the sets that change, before and after each pass
pub record Kept (p : Project) (settled leads plan : List ℕ) : Type 0 where
  pub marked : Marked p plan
  pub settling : Settling p settled plan
  pub leading : Leading p leads plan

-- one pass of each rule
pub record Once (p : Project) (plan settled' leads' plan' : List ℕ) (changed : Bool) : Type 0 where
  pub kept : Kept p settled' leads' plan'
  pub passed : Passed (asked (orders_of p) (labels_of p) p) plan plan' changed

-- the plan closed under the rules
abbrev pub closed : Project → List ℕ → List ℕ
closed p plan = close (asked (orders_of p) (labels_of p) p) plan
