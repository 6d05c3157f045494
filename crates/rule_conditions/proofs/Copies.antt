-- A copy of a plan to which just what a rule asks for was added has more than the plan exactly what breaks the rule's condition.
-- Assumes nothing.
use Rattle.std.specs.Prelude.{◌≡◌, ℕ, Bool, true, not, ◌&&◌, List, [], length}
use mathlib.Core.Path.{sym, ap, ◌∙◌}
use mathlib.Core.Logic.{⊎_elim}
use mathlib.Core.Bool.{true≢false}
use native.Mathlib.Omega.{arith}
use Rattle.lists.specs.Words.{has}
use Rattle.lists.proofs.Laws.{and_parts, and-join, iff-eq, not-true}
use Rattle.tables.specs.Project.{Project}
use Rattle.tables.specs.Readings.{modules}
use Rattle.chunk_cycles.specs.Cycles.{labels_of}
use Rattle.marks.specs.Steps.{Added}
use Rattle.wrap_rules.specs.Plan.{Rule, asks, orders_of}
use Rattle.plan_conditions.specs.Conditions.{closed_under, broken, lowest}
use Rattle.plan_conditions.proofs.Lowest.{lowest-cong}

-- what a rule added to the plan and the plan lacks
module _ (p : Project) (rule : Rule) (plan : List ℕ) where
  abbrev asked : ℕ → Bool
  asked m = asks (orders_of p) (labels_of p) p rule plan m

  pub lacking-rule : {copy : List ℕ} {changed : Bool} → length plan ≡ modules p → Added (λ (m : ℕ). asked m ≡ true) plan copy changed
      → lowest (λ (m : ℕ). has copy m && not (has plan m)) (length copy) ≡ lowest (broken p [] plan (closed_under rule)) (modules p)
  lacking-rule {copy} {changed} size a =
      ap (lowest (λ (m : ℕ). has copy m && not (has plan m))) (a.len ∙ size)
      ∙ lowest-cong (λ (m : ℕ). has copy m && not (has plan m)) (λ (m : ℕ). asked m && not (has plan m)) (modules p)
      (λ m l.
      iff-eq (has copy m && not (has plan m)) (asked m && not (has plan m))
      (λ e.
      let r = and_parts (has copy m) (not (has plan m)) e in
      and-join (asked m) (not (has plan m)) (⊎_elim (λ h. absurd (true≢false (sym h ∙ not-true (has plan m) r.1))) (λ h. h) (a.only m r.0)) r.1)
      (λ e.
      let r = and_parts (asked m) (not (has plan m)) e in
      and-join (has copy m) (not (has plan m)) (a.all m (omega (arith, size)) r.0) r.1))
