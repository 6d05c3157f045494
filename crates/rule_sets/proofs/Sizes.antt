-- How long the sets are, and that the roots are modules.
-- Assumes nothing.
use Rattle.std.specs.Prelude.{◌≡◌, ℕ, ◌≤◌, List, length}
use mathlib.Core.Path.{ap, ◌∙◌}
use native.Mathlib.Omega.{arith}
use Rattle.lists.proofs.Laws.{length-marks_of}
use Rattle.tables.specs.Project.{Project}
use Rattle.tables.specs.Readings.{modules, chunks}
use Rattle.tables.specs.Accepted.{Below}
use Rattle.chunk_cycles.proofs.OverTable.{length-labels}
use Rattle.sensitivity.specs.Marks.{sensitive_marks}
use Rattle.sensitivity.proofs.Marks.{length-grounds}
use Rattle.eligibility.specs.Eligible.{eligible, eligible_marks}
use Rattle.wrap_rules.proofs.Roots.{roots-below}
use Rattle.wrap_rules.proofs.Sets.{length-candidates}
use Rattle.rule_sets.specs.inner.Sets.{Labelled, Rooted, Reached}

module _ (p : Project) where
  pub label-size : {labels : List ℕ} → Labelled p labels → length labels ≡ chunks p
  label-size s = ap length s.label ∙ length-labels p

  pub label-few : {labels : List ℕ} → Labelled p labels → length labels ≤ 1024
  label-few s = omega (arith, label-size s, s.accepted.sizes.order)

  pub sensitive-size : {sensitives : List ℕ} → sensitives ≡ sensitive_marks p → length sensitives ≡ modules p
  sensitive-size e = ap length e ∙ length-grounds p

  pub eligible-size : {eligibles : List ℕ} → eligibles ≡ eligible_marks p → length eligibles ≡ modules p
  eligible-size e = ap length e ∙ length-marks_of (eligible p) (modules p)

  pub candidate-size : {candidates : List ℕ} → Reached p candidates → length candidates ≡ modules p
  candidate-size s = ap length s.candidate_set ∙ length-candidates p

  pub roots-in : {root_list : List ℕ} → Rooted p root_list → Below (modules p) root_list
  roots-in s = rw s.root (roots-below p s.accepted)
