-- The two sets of a project, as slices hold them.
-- Assumes nothing.
use Rattle.std.specs.Prelude.{◌≡◌, ℕ, List}
use Rattle.tables.specs.Project.{Project}
use Rattle.sensitivity.specs.Marks.{sensitive_marks}
use Rattle.eligibility.specs.Eligible.{eligible_marks}

-- the marks of a project's sensitive and of its eligible modules
pub record Sets (p : Project) (sensitives eligibles : List ℕ) : Type 0 where
  pub sensitive_set : sensitives ≡ sensitive_marks p
  pub eligible_set : eligibles ≡ eligible_marks p
