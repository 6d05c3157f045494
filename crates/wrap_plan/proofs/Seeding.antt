-- The start from seeds: the eligible ones are marked.
-- Assumes nothing.
use Rattle.std.specs.Prelude.{◌≡◌, ℕ, ◌<◌, true, ◌&&◌, List, length, get_or, replicate}
use mathlib.Core.Path.{sym, ap, subst, ◌∙◌}
use mathlib.Core.Logic.{⊎_elim}
use native.Mathlib.Omega.{arith}
use lib.ListN.{length-replicate}
use Rattle.lists.specs.Words.{elem, has, marks_of}
use Rattle.lists.proofs.Laws.{and_parts, and-join, iff-eq, elem_mem, mem-elem, marks_of-has, marks_of-cong}
use Rattle.lists.proofs.Members.{mem-at, get_d-mem}
use Rattle.walk.specs.Close.{close, Bits}
use Rattle.walk.proofs.Visits.{bits-replicate}
use Rattle.walk.proofs.Closes.{marks_of-bits}
use Rattle.tables.specs.Project.{Project}
use Rattle.tables.specs.Readings.{modules}
use Rattle.chunk_cycles.specs.Cycles.{labels_of}
use Rattle.eligibility.specs.Eligible.{eligible, eligible_marks}
use Rattle.eligibility.proofs.Eligible.{eligible-in}
use Rattle.wrap_rules.specs.Plan.{start, plan_from, asked, orders_of}
use Rattle.wrap_plan.specs.Promise.{plan_of}
use Rattle.marks.specs.Steps.{looked, Owners}
use Rattle.wrap_rules.specs.inner.Passes.{Marked}
use Rattle.rule_sets.proofs.Blank.{blank-none}
use Rattle.plan_rounds.specs.inner.Rounds.{closed}
use Rattle.marks.proofs.Steps.{looked-has, has-looked, looked-bits}
use Rattle.wrap_rules.proofs.Sets.{eligible-has}

module _ (p : Project) {eligibles seeds zeroed plan : List ℕ} {n : ℕ} (k : eligibles ≡ eligible_marks p) (size : n ≡ modules p)
    (z : zeroed ≡ replicate n 0) (o : Owners seeds (looked 0 eligibles seeds) (length seeds) zeroed plan) where
  plan-size : length plan ≡ modules p
  plan-size = o.len ∙ ap length z ∙ length-replicate n 0 ∙ size

  plan-bits : Bits plan
  plan-bits = o.bits (looked-bits eligibles seeds (subst Bits (sym k) (marks_of-bits (eligible p) (modules p)))) (subst Bits (sym z) (bits-replicate n))

  -- the marks of the eligible seeds
  seeds-start : plan ≡ start (orders_of p) (labels_of p) p seeds
  unfolding start Bits
  seeds-start =
      sym (marks_of-has plan plan-bits)
      ∙ ap (marks_of (has plan)) plan-size
      ∙ marks_of-cong (has plan) (λ (m : ℕ). eligible p m && elem m seeds) (modules p)
      (λ m l.
      iff-eq (has plan m) (eligible p m && elem m seeds)
      (λ e.
      ⊎_elim (λ h. absurd (blank-none n m (subst (λ (s : List ℕ). has s m ≡ true) z h)))
      (λ r.
      let q : has eligibles m ≡ true = subst (λ (x : ℕ). has eligibles x ≡ true) r.3 (has-looked eligibles seeds r.0 r.2).1 in
      and-join (eligible p m) (elem m seeds) (sym (eligible-has p m) ∙ subst (λ (s : List ℕ). has s m ≡ true) k q) (subst (λ (x : ℕ). elem x seeds ≡ true) r.3 (mem-elem (get_or seeds r.0 0) seeds (get_d-mem seeds r.0 r.1))))
      (o.only m e))
      (λ e.
      let b = and_parts (eligible p m) (elem m seeds) e in
      let a = mem-at seeds (elem_mem m seeds b.1) in
      let q : has eligibles (get_or seeds a.0 0) ≡ true = subst (λ (x : ℕ). has eligibles x ≡ true) (sym a.2) (subst (λ (s : List ℕ). has s m ≡ true) (sym k) (eligible-has p m ∙ b.0)) in
      subst (λ (x : ℕ). has plan x ≡ true) a.2
      (o.new a.0 a.1 (looked-has eligibles seeds a.0 a.1 ∙ q) (subst (λ (x : ℕ). x < length zeroed) (sym a.2) (omega (arith, ap length z, length-replicate {A = ℕ} n 0, size, eligible-in p m b.0))))))

  pub seeds-marked : Marked p plan
  seeds-marked = record { size = plan-size; bits = plan-bits }

  pub seeds-planned : {plan' : List ℕ} → plan' ≡ closed p plan → plan' ≡ plan_of p seeds
  unfolding plan_of plan_from
  seeds-planned e = e ∙ ap (close (asked (orders_of p) (labels_of p) p)) seeds-start
