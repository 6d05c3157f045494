-- Eligible modules are normal modules of the project.
-- Assumes nothing.
use Rattle.std.specs.Prelude.{◌≡◌, ℕ, ◌<◌, true, not, eqb, List, length}
use Rattle.lists.specs.Words.{has, marks_of}
use Rattle.lists.proofs.Laws.{and_parts, marks-test}
use Rattle.tables.specs.Project.{Project}
use Rattle.tables.specs.Readings.{modules, is_normal, flagged}
use Rattle.tables.proofs.Targets.{normal-in}
use Rattle.eligibility.specs.Eligible.{is_eligible, eligible}

module _ (runtime : ℕ) (normal included exports wrap : List ℕ) (m : ℕ) (e : is_eligible runtime normal included exports wrap m ≡ true) where
  is-eligible-normal : is_normal normal m ≡ true
  is-eligible-normal = (and_parts (is_normal normal m) _ (and_parts (flagged included m) _ (and_parts (not (eqb m runtime)) _ e).1).1).0

  -- a module that columns make eligible has a row
  pub is-eligible-in : m < length normal
  is-eligible-in = normal-in normal m is-eligible-normal

module _ (p : Project) (m : ℕ) (e : eligible p m ≡ true) where
  pub eligible-normal : is_normal p.normal m ≡ true
  unfolding eligible
  eligible-normal = is-eligible-normal p.runtime p.normal p.included p.exports p.wrap m e

  pub eligible-in : m < modules p
  eligible-in = normal-in p.normal m eligible-normal

pub eligible-marks : (p : Project) → has (marks_of (eligible p) (modules p)) ≡ eligible p
eligible-marks p = marks-test (eligible p) (modules p) (eligible-in p)
