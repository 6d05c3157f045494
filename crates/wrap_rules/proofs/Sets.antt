-- The marks that the passes read say what they are marks of.
-- Assumes nothing.
use mathlib.Core.Path.{◌≡◌, sym, ap, ◌∙◌}
use mathlib.Core.Bool.{Bool, true, ◌&&◌}
use mathlib.Core.List.{List}
use Prim.Native.Nat.{ℕ}
use lib.ListN.{length}
use Rattle.lists.specs.Words.{has}
use Rattle.lists.proofs.Laws.{and_parts, and-join, length-marks_of, marks-test}
use Rattle.tables.specs.Project.{Project}
use Rattle.tables.specs.Readings.{modules}
use Rattle.sensitivity.specs.Marks.{sensitive, sensitive_marks}
use Rattle.eligibility.specs.Eligible.{eligible, eligible_marks}
use Rattle.sensitivity.proofs.Marks.{sensitive-marks}
use Rattle.eligibility.proofs.Eligible.{eligible-in, eligible-marks}
use Rattle.wrap_rules.specs.Plan.{reached}
use Rattle.wrap_rules.specs.inner.Passes.{Passed, Marked, candidate_marks}

module _ (p : Project) (m : ℕ) where
  pub sensitive-has : has (sensitive_marks p) m ≡ sensitive p m
  sensitive-has = ap (λ (f : ℕ → Bool). f m) (sensitive-marks p)

  pub eligible-has : has (eligible_marks p) m ≡ eligible p m
  eligible-has = ap (λ (f : ℕ → Bool). f m) (eligible-marks p)

  pub candidate-has : has (candidate_marks p) m ≡ (eligible p m && reached p m)
  candidate-has = ap (λ (f : ℕ → Bool). f m) (marks-test (λ (x : ℕ). eligible p x && reached p x) (modules p) (λ x e. eligible-in p x (and_parts (eligible p x) (reached p x) e).0))

  pub candidate-parts : has (candidate_marks p) m ≡ true → (eligible p m ≡ true) × (reached p m ≡ true)
  candidate-parts e = and_parts (eligible p m) (reached p m) (sym candidate-has ∙ e)

  pub parts-candidate : eligible p m ≡ true → reached p m ≡ true → has (candidate_marks p) m ≡ true
  parts-candidate e r = candidate-has ∙ and-join (eligible p m) (reached p m) e r

pub length-candidates : (p : Project) → length (candidate_marks p) ≡ modules p
length-candidates p = length-marks_of (λ (m : ℕ). eligible p m && reached p m) (modules p)

-- a plan after a pass of any rule
pub marked_more : {p : Project} {rule : List ℕ → ℕ → Bool} {s t : List ℕ} {r : Bool} → Marked p s → Passed rule s t r → Marked p t
marked_more m h = record { size = h.len ∙ m.size; bits = h.bits }
