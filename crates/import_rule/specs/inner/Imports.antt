-- What the pass of rule (iii) looks for, asks and leaves, over the columns that it reads, and at a project.
-- Assumes nothing.
use Rattle.std.specs.Prelude.{◌≡◌, ℕ, Bool, true, List, length}
use Rattle.lists.specs.Words.{has}
use Rattle.tables.specs.Project.{Project}
use Rattle.tables.specs.Readings.{modules}
use Rattle.tables.specs.Accepted.{Below}
use Rattle.eligibility.specs.Eligible.{eligible}
use Rattle.marks.specs.Steps.{Row, Added}
use Rattle.wrap_rules.specs.Rules.{import_asks}
use Rattle.wrap_rules.specs.Plan.{reached}
use Rattle.import_edges.specs.inner.Spread.{Along, Under, Spreads, record_targets}

-- a candidate with a planned dependency and a kind 0 target that leads to the plan
pub record Importer (importers targets dependency_module dependency candidates S leads : List ℕ) (m : ℕ) : Type 0 where
  pub candidate : has candidates m ≡ true
  pub depends : Row dependency_module dependency S m
  pub leading : Row importers targets leads m

-- a project's dependencies fit each other, these targets and these candidates, over n modules
pub record Importing (p : Project) (targets candidates : List ℕ) (n : ℕ) : Type 0 where
  pub imported : Below n targets
  pub dependencies : length p.dependency ≡ length p.dependency_module
  pub dependents : Below n p.dependency_module
  pub depended : Below n p.dependency
  pub candidate : length candidates ≡ n

-- modules that lead to a plan
pub record Leading (p : Project) (leads plan : List ℕ) : Type 0 where
  pub size : length leads ≡ modules p
  pub along : Along (record_targets p) p.record_module leads
  pub under : Under (record_targets p) p.record_module plan leads

-- what a pass leaves: just what the rule asks for with the plan as it was is added
pub record ImportPassed (p : Project) (plan leads' plan' : List ℕ) (changed : Bool) : Type 0 where
  pub spreads : Spreads (record_targets p) p.record_module plan leads'
  pub added : Added (λ (m : ℕ). import_asks (eligible p) (reached p) p plan m ≡ true) plan plan' changed
