-- The risks of all analysed entries and the seed rows, as the start of the plan.
-- Assumes nothing.
use Rattle.std.specs.Prelude.{◌≡◌, ℕ, ◌<◌, true, ◌&&◌, List, length, get_or, replicate}
use mathlib.Core.Path.{sym, ap, subst, ◌∙◌}
use mathlib.Core.Logic.{⊎_elim}
use native.Mathlib.Omega.{arith}
use Rattle.lists.specs.Words.{elem, has, marks_of}
use Rattle.lists.proofs.Laws.{iff-eq, and_parts, and-join, or_parts, or_left, or_right, any-mem, elem_mem, mem-elem, length-marks_of, has-marks_of, marks_of-has, marks_of-cong}
use Rattle.lists.proofs.Members.{mem-at, get_d-mem}
use Rattle.walk.specs.Close.{close, Within, Bits}
use Rattle.walk.proofs.Closes.{marks_of-bits}
use Rattle.tables.specs.Project.{Project}
use Rattle.tables.specs.Readings.{modules, entry_chunk_of}
use Rattle.expected_visit.specs.OfProject.{expected_of}
use Rattle.entry_run.specs.Actual.{actual_of, hosts_of}
use Rattle.chunk_cycles.specs.Cycles.{labels_of, reaches_cycle_of}
use Rattle.sensitivity.specs.Marks.{sensitive}
use Rattle.eligibility.specs.Eligible.{eligible, eligible_marks}
use Rattle.risk_of_orders.specs.inner.Steps.{join}
use Rattle.risk_of_orders.proofs.Joins.{join-zero}
use Rattle.risk_of_orders.proofs.Risks.{risk-eligible as of-orders}
use Rattle.at_risk.specs.Promise.{risk_of_entry}
use Rattle.marks.specs.Steps.{looked, Owners}
use Rattle.marks.proofs.Steps.{looked-has, has-looked, looked-bits}
use Rattle.wrap_rules.specs.Plan.{roots, orders_of, start, plan_from, asked}
use Rattle.wrap_rules.specs.inner.Passes.{Marked}
use Rattle.wrap_rules.proofs.Sets.{eligible-has}
use Rattle.plan_rounds.specs.inner.Rounds.{closed}
use Rattle.wrap_plan.specs.Promise.{plan_of}
use Rattle.order_analysis.specs.Promise.{seeds_of, whole_plan}
use Rattle.order_analysis.specs.inner.Analysis.{risks_of}
use Rattle.order_analysis.proofs.Seeds.{seed-test}

-- only eligible modules are at risk
risk-eligible : (p : Project) (root m : ℕ) → has (risk_of_entry p root) m ≡ true → eligible p m ≡ true
unfolding risk_of_entry
risk-eligible p root m e = of-orders (sensitive p) (eligible p) (expected_of p root) (actual_of p root) (hosts_of p root) (reaches_cycle_of p (entry_chunk_of p root)) (modules p) m e

-- the risks, added to an empty set
pub risks-marked : (p : Project) (plan : List ℕ) {zeroed risked : List ℕ} → length plan ≡ modules p → zeroed ≡ replicate (length plan) 0 → risked ≡ join zeroed (risks_of p) → risked ≡ marks_of (risks_of p) (modules p)
risks-marked p plan size z e = e ∙ ap (λ (s : List ℕ). join s (risks_of p)) z ∙ join-zero (length plan) (risks_of p) ∙ ap (marks_of (risks_of p)) size

-- the start: the risks, then the eligible seed rows
module _ (p : Project) {eligibles risked plan : List ℕ} (k : eligibles ≡ eligible_marks p)
    (risked-is : risked ≡ marks_of (risks_of p) (modules p)) (o : Owners p.seed (looked 0 eligibles p.seed) (length p.seed) risked plan) where
  risked-has : (m : ℕ) → m < modules p → has risked m ≡ risks_of p m
  risked-has m l = ap (λ (s : List ℕ). has s m) risked-is ∙ has-marks_of (risks_of p) (modules p) m l

  risked-length : length risked ≡ modules p
  risked-length = ap length risked-is ∙ length-marks_of (risks_of p) (modules p)

  plan-size : length plan ≡ modules p
  plan-size = o.len ∙ risked-length

  plan-bits : Bits plan
  plan-bits = o.bits (looked-bits eligibles p.seed (subst Bits (sym k) (marks_of-bits (eligible p) (modules p)))) (subst Bits (sym risked-is) (marks_of-bits (risks_of p) (modules p)))

  there : (m : ℕ) → m < modules p → has plan m ≡ true → (eligible p m && elem m (seeds_of p)) ≡ true
  unfolding Within
  there m l e =
      ⊎_elim
      (λ h.
      let a = sym (risked-has m l) ∙ h in
      let r = any-mem (λ (root : ℕ). has (risk_of_entry p root) m) (roots p) a in
      and-join (eligible p m) (elem m (seeds_of p)) (risk-eligible p r.0 m r.2) (seed-test p m ∙ or_left (risks_of p m) (elem m p.seed) a))
      (λ r.
      let q : has eligibles m ≡ true = subst (λ (x : ℕ). has eligibles x ≡ true) r.3 (has-looked eligibles p.seed r.0 r.2).1 in
      and-join (eligible p m) (elem m (seeds_of p)) (sym (eligible-has p m) ∙ subst (λ (s : List ℕ). has s m ≡ true) k q)
      (seed-test p m ∙ or_right (risks_of p m) (elem m p.seed) (subst (λ (x : ℕ). elem x p.seed ≡ true) r.3 (mem-elem (get_or p.seed r.0 0) p.seed (get_d-mem p.seed r.0 r.1)))))
      (o.only m e)

  back : (m : ℕ) → m < modules p → (eligible p m && elem m (seeds_of p)) ≡ true → has plan m ≡ true
  unfolding Within
  back m l e =
      let b = and_parts (eligible p m) (elem m (seeds_of p)) e in
      ⊎_elim (λ h. o.old m (risked-has m l ∙ h))
      (λ h.
      let a = mem-at p.seed (elem_mem m p.seed h) in
      let q : has eligibles (get_or p.seed a.0 0) ≡ true = subst (λ (x : ℕ). has eligibles x ≡ true) (sym a.2) (subst (λ (s : List ℕ). has s m ≡ true) (sym k) (eligible-has p m ∙ b.0)) in
      subst (λ (x : ℕ). has plan x ≡ true) a.2
      (o.new a.0 a.1 (looked-has eligibles p.seed a.0 a.1 ∙ q) (subst (λ (x : ℕ). x < length risked) (sym a.2) (omega (arith, risked-length)))))
      (or_parts (risks_of p m) (elem m p.seed) (sym (seed-test p m) ∙ b.1))

  whole-start : plan ≡ start (orders_of p) (labels_of p) p (seeds_of p)
  unfolding start Bits
  whole-start =
      sym (marks_of-has plan plan-bits)
      ∙ ap (marks_of (has plan)) plan-size
      ∙ marks_of-cong (has plan) (λ (m : ℕ). eligible p m && elem m (seeds_of p)) (modules p) (λ m l. iff-eq (has plan m) (eligible p m && elem m (seeds_of p)) (there m l) (back m l))

  pub whole-marked : Marked p plan
  whole-marked = record { size = plan-size; bits = plan-bits }

  pub whole-planned : {plan' : List ℕ} → plan' ≡ closed p plan → plan' ≡ whole_plan p
  unfolding whole_plan plan_of plan_from
  whole-planned e = e ∙ ap (close (asked (orders_of p) (labels_of p) p)) whole-start
