-- The risk of an entry is both kinds joined, and each kind is what its steps add to no mark.
-- Assumes nothing.
use Rattle.std.specs.Prelude.{◌≡◌, ℕ, ◌<◌, Bool, ◌||◌, List, length, replicate}
use mathlib.Core.Path.{sym, ap, ◌∙◌}
use native.Mathlib.Omega.{arith}
use Rattle.lists.specs.Words.{has, marks_of}
use Rattle.lists.proofs.Laws.{has-marks_of, length-marks_of, marks_of-cong}
use Rattle.tables.specs.Project.{Project}
use Rattle.tables.specs.Readings.{modules}
use Rattle.risk_of_orders.specs.Risk.{risk_of}
use Rattle.risk_of_orders.specs.inner.Steps.{join}
use Rattle.risk_of_orders.proofs.Joins.{join-cong, join-join, join-zero}
use Rattle.at_risk.specs.Promise.{in_order_risk, in_cycle_risk, order_risk_of_entry, cycle_risk_of_entry, risk_of_entry}

module _ (p : Project) (root : ℕ) where
  abbrev joined : ℕ → Bool
  joined m = in_order_risk p root m || in_cycle_risk p root m

  risk-at : (m : ℕ) → m < modules p → has (risk_of_entry p root) m ≡ joined m
  unfolding risk_of_entry risk_of
  risk-at m l = has-marks_of joined (modules p) m l

  -- the order risk and then the cycle risk
  pub risk-joined : (out : List ℕ) → length out ≡ modules p → join (join out (in_order_risk p root)) (in_cycle_risk p root) ≡ join out (has (risk_of_entry p root))
  risk-joined out n = join-join out (in_order_risk p root) (in_cycle_risk p root) ∙ join-cong out joined (has (risk_of_entry p root)) (λ i l. sym (risk-at i (omega arith)))

  pub length-order-risk : length (order_risk_of_entry p root) ≡ modules p
  unfolding order_risk_of_entry
  length-order-risk = length-marks_of (in_order_risk p root) (modules p)

  pub length-cycle-risk : length (cycle_risk_of_entry p root) ≡ modules p
  unfolding cycle_risk_of_entry
  length-cycle-risk = length-marks_of (in_cycle_risk p root) (modules p)

  -- from none
  pub order-risk-alone : (n : ℕ) → n ≡ modules p → join (replicate n 0) (in_order_risk p root) ≡ order_risk_of_entry p root
  unfolding order_risk_of_entry
  order-risk-alone n e = join-zero n (in_order_risk p root) ∙ ap (marks_of (in_order_risk p root)) e

  pub cycle-risk-alone : (n : ℕ) → n ≡ modules p → join (replicate n 0) (in_cycle_risk p root) ≡ cycle_risk_of_entry p root
  unfolding cycle_risk_of_entry
  cycle-risk-alone n e = join-zero n (in_cycle_risk p root) ∙ ap (marks_of (in_cycle_risk p root)) e

  -- the risk is the join of the two kinds as they are marked
  pub risk-is-the-join : risk_of_entry p root ≡ marks_of (λ (m : ℕ). has (order_risk_of_entry p root) m || has (cycle_risk_of_entry p root) m) (modules p)
  unfolding risk_of_entry risk_of order_risk_of_entry cycle_risk_of_entry
  risk-is-the-join =
      marks_of-cong joined (λ (m : ℕ). has (order_risk_of_entry p root) m || has (cycle_risk_of_entry p root) m) (modules p)
      (λ m l. sym (cc (has-marks_of (in_order_risk p root) (modules p) m l, has-marks_of (in_cycle_risk p root) (modules p) m l)))
