-- No more modules are planned than are eligible, and no more are eligible than there are.
-- Assumes nothing.
use Rattle.std.specs.Prelude.{◌≡◌, ℕ, zero, suc, ◌≤◌, true, List, [], ◌∷◌}
use mathlib.Core.Path.{refl, ap, ◌∙◌}
use mathlib.Core.Bool.{false≢true}
use native.Mathlib.Omega.{arith}
use Rattle.lists.specs.Words.{has, ones}
use Rattle.lists.proofs.Laws.{ones-zeros, length-marks_of}
use Rattle.tables.specs.Project.{Project}
use Rattle.tables.specs.Readings.{modules}
use Rattle.tables.specs.Accepted.{Accepted}
use Rattle.chunk_cycles.specs.Cycles.{labels_of}
use Rattle.eligibility.specs.Eligible.{eligible, eligible_marks}
use Rattle.eligibility.proofs.Eligible.{eligible-marks}
use Rattle.wrap_rules.specs.Plan.{orders_of}
use Rattle.wrap_rules.proofs.Plans.{plan-eligible}
use Rattle.wrap_plan.specs.Promise.{plan_of}
use Rattle.order_analysis.specs.Promise.{seeds_of, whole_plan}
use Rattle.table_share.specs.Counts.{eligible_count, planned_count}

-- a set within a set has no more members
ones-within : (s t : List ℕ) → ((m : ℕ) → has s m ≡ true → has t m ≡ true) → ones s ≤ ones t
ones-within [] t h = omega arith
ones-within (zero ∷ s) [] h = ones-within s [] (λ m. h (suc m))
ones-within (suc x ∷ s) [] h = absurd (false≢true (h zero refl))
ones-within (zero ∷ s) (zero ∷ t) h = ones-within s t (λ m. h (suc m))
ones-within (zero ∷ s) (suc y ∷ t) h = omega (arith, ones-within s t (λ m. h (suc m)))
ones-within (suc x ∷ s) (zero ∷ t) h = absurd (false≢true (h zero refl))
ones-within (suc x ∷ s) (suc y ∷ t) h = omega (arith, ones-within s t (λ m. h (suc m)))

module _ (p : Project) where
  pub planned-eligible : planned_count p ≤ eligible_count p
  unfolding eligible_count planned_count whole_plan plan_of
  planned-eligible = ones-within (whole_plan p) (eligible_marks p) (λ m e. ap (λ f. f m) (eligible-marks p) ∙ plan-eligible (orders_of p) (labels_of p) p (seeds_of p) m e)

  pub eligible-few : Accepted p → eligible_count p ≤ 4096
  unfolding eligible_count
  eligible-few ok = omega (arith, ones-zeros (eligible_marks p), length-marks_of (eligible p) (modules p), ok.sizes.normal)
