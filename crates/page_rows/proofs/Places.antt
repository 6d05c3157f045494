-- Which members of an order have a place in another.
-- Assumes nothing.
use Rattle.std.specs.Prelude.{◌≡◌, ℕ, not, List, length}
use mathlib.Core.Path.{ap, ◌∙◌}
use mathlib.Core.Logic.{⊎_elim}
use native.Mathlib.Omega.{arith}
use Rattle.lists.specs.Words.{is_zero, keep, has, elem, marks_of}
use Rattle.lists.proofs.Laws.{both, keep-cong, has-marks_of}
use Rattle.tables.specs.Accepted.{Below}
use Rattle.tables.proofs.Accepted.{below-mem}
use Rattle.risk_of_orders.specs.inner.Early.{rank}
use Rattle.risk_of_orders.specs.inner.Steps.{Ranked}
use Rattle.page_rows.specs.Rows.{others_of}
use Rattle.page_rows.specs.inner.Steps.{unplaced}

-- without a place is not a member
pub unranked : (order : List ℕ) (m : ℕ) → is_zero (rank order m) ≡ not (elem m order)
unfolding rank
unranked order m = ⊎_elim (λ e. rw e) (λ e. rw e) (both (elem m order))

module _ (order : List ℕ) (n : ℕ) (rows : Below n order) where
  -- members that are marked as without a place
  keep-unplaced : (places : List ℕ) → keep (has (marks_of (unplaced places) n)) order ≡ keep (unplaced places) order
  keep-unplaced places = keep-cong (has (marks_of (unplaced places) n)) (unplaced places) order (λ x h. has-marks_of (unplaced places) n x (below-mem order rows h))

  pub keep-marked : (places : List ℕ) {marks : List ℕ} {m : ℕ} → marks ≡ marks_of (unplaced places) m → m ≡ n → keep (has marks) order ≡ keep (unplaced places) order
  keep-marked places e l = rw (e, l) (keep-unplaced places)

  -- members without a place are the others
  pub unplaced-others : (expected places : List ℕ) → length places ≡ n → Ranked expected places → keep (unplaced places) order ≡ others_of expected order
  unfolding others_of Ranked
  unplaced-others expected places l r =
      keep-cong (unplaced places) (λ (m : ℕ). not (elem m expected)) order
      (λ x h. ap is_zero (r x (omega (arith, below-mem order rows h))) ∙ unranked expected x)
