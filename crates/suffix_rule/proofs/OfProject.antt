-- Rule (i) at a project: what the pass over its columns asks, and that it is a pass of the rule.
-- Assumes nothing.
use Rattle.std.specs.Prelude.{◌≡◌, ℕ, ◌≤◌, Bool, List, map, length}
use mathlib.Core.Path.{sym, ap, subst, ◌∙◌}
use lib.Seq.{take_all}
use Rattle.lists.specs.Words.{keep, has}
use Rattle.lists.proofs.Laws.{and-join}
use Rattle.tables.specs.Project.{Project}
use Rattle.tables.specs.Accepted.{Accepted}
use Rattle.expected_visit.specs.OfProject.{expected_of}
use Rattle.sensitivity.specs.Marks.{sensitive_marks}
use Rattle.eligibility.specs.Eligible.{eligible, eligible_marks}
use Rattle.sensitivity.proofs.Marks.{sensitive-marks}
use Rattle.eligibility.proofs.Eligible.{eligible-marks}
use Rattle.wrap_rules.specs.Rules.{suffix_asks}
use Rattle.wrap_rules.specs.Plan.{roots, reached, expected_sensitive_of, orders_of}
use Rattle.wrap_rules.specs.inner.Passes.{Passed, candidate_marks}
use Rattle.wrap_rules.proofs.Sets.{eligible-has, candidate-has}
use Rattle.wrap_rules.proofs.Roots.{expected-reached}
use Rattle.suffix_rule.specs.inner.Suffix.{sensitive_orders, Candidates, SuffixPassed}
use Rattle.suffix_rule.proofs.Extending.{Walked}

module _ (p : Project) where
  pub orders-are : sensitive_orders p (sensitive_marks p) (roots p) ≡ orders_of p
  unfolding sensitive_orders orders_of expected_sensitive_of
  orders-are = ap (λ (f : ℕ → Bool). map (λ (root : ℕ). keep f (expected_of p root)) (roots p)) (sensitive-marks p)

  pub suffix-pass : {s t : List ℕ} {r : Bool}
      → Passed (suffix_asks (has (eligible_marks p)) (sensitive_orders p (sensitive_marks p) (roots p))) s t r
      → Passed (suffix_asks (eligible p) (orders_of p)) s t r
  suffix-pass {s} {t} {r} h =
      subst (λ (f : ℕ → Bool). Passed (suffix_asks f (orders_of p)) s t r) (eligible-marks p)
      (subst (λ (orders : List (List ℕ)). Passed (suffix_asks (has (eligible_marks p)) orders) s t r) orders-are h)

  -- a pass over all roots
  pub walked-end : (k : ℕ) {s settled t : List ℕ} {changed : Bool} → length (roots p) ≤ k → Walked p (roots p) (sensitive_marks p) (eligible_marks p) s k settled t changed → SuffixPassed p s settled t changed
  walked-end k l w = record { settles = w.settles; passed = suffix-pass (rw (take_all k (roots p) l) at w.passed) }

  -- an eligible member of a root's order is a candidate
  pub orders-ready : Accepted p → Candidates p (roots p) (eligible_marks p) (candidate_marks p)
  unfolding Candidates
  orders-ready ok root m h i g = candidate-has p m ∙ and-join (eligible p m) (reached p m) (sym (eligible-has p m) ∙ g) (expected-reached p ok root m h i)
