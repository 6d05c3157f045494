-- What a search of the circles asks.
-- Assumes nothing.
use Rattle.std.specs.Prelude.{ℕ, ◌<◌, ◌≤◌, List, length}
use Rattle.lists.specs.Words.{Distinct}
use Rattle.tables.specs.Project.{Project}
use Rattle.tables.specs.Accepted.{Below}
use Rattle.tables.specs.Refusal.{row_limit}
use Rattle.circle_visit.specs.Visit.{Leads, led_by}

-- rows that lead to each target of a module once, over n modules, and the roots among them
pub record Searched (p : Project) (starts led : List ℕ) (n : ℕ) : Type 0 where
  pub leads : Leads starts led n
  pub single : (m : ℕ) → Distinct (led_by starts led m)
  pub runtimes : p.runtime < n
  pub entries : Below n p.entry
  pub rows : length p.entry ≤ row_limit
