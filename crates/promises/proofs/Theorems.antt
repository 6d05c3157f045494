-- The promises of specs/Statements, inhabited.
-- Assumes nothing.
use mathlib.Core.Path.{◌≡◌, refl, sym, ap, subst, ◌∙◌}
use mathlib.Core.Logic.{⊎_elim}
use mathlib.Core.Bool.{true}
use mathlib.Core.List.Memᴰ
use mathlib.Core.List.{List, ◌++◌, Memᴰ}
use Prim.Native.Nat.{ℕ}
use Rattle.std.specs.Prelude.{Option, None, Some, Result}
use native.Mathlib.Omega.{arith}
use lib.ListN.{length, get_or, drop}
use Rattle.lists.specs.Words.{up_to, elem, has, ones, Distinct}
use Rattle.lists.proofs.Laws.{any-mem, keep-mem, up_to-mem}
use Rattle.walk.specs.Close.{Within, Closed, Bits}
use Rattle.tables.specs.Project.{Project}
use Rattle.tables.specs.Readings.{modules, analysed_row, is_analysed, analysed, entry_chunk_of, rows_of}
use Rattle.tables.specs.Answers.{answer, refused_of, count_of, after}
use Rattle.tables.specs.declared.Refusal.{Refusal}
use Rattle.tables.specs.Accepted.{Accepted}
use Rattle.tables.proofs.Accepted.{accepted}
use Rattle.tables.proofs.OwnerRows.{mem-rows}
use Rattle.chunk_cycles.specs.Cycles.{labels_of, reaches_cycle_of}
use Rattle.chunk_cycles.specs.Paths.{MoreImports}
use Rattle.chunk_cycles.proofs.OverTable.{accepted-fit}
use Rattle.chunk_cycles.proofs.Paths.{component-grows}
use Rattle.expected_visit.specs.OfProject.{expected_of}
use Rattle.expected_visit.proofs.Laws.{expected-distinct}
use Rattle.entry_run.specs.Actual.{actual_of, hosts_of}
use Rattle.entry_run.proofs.OfProject.{actual-distinct}
use Rattle.sensitivity.specs.Marks.{sensitive}
use Rattle.eligibility.specs.Eligible.{eligible}
use Rattle.risk_of_orders.specs.Risk.{is_flagged}
use Rattle.wrap_rules.specs.Plan.{expected_sensitive_of, suffix_rule, roots, asks, orders_of}
use Rattle.at_risk.specs.Promise.{actual_sensitive_of, risk_of_entry}
use Rattle.eligibility.proofs.Eligible.{eligible-in}
use Rattle.risk_of_orders.proofs.Risks.{struck-same, flagged-risk}
use Rattle.wrap_rules.specs.Rules.{from_first}
use Rattle.wrap_plan.specs.Promise.{plan_of, plan_verdict}
use Rattle.wrap_rules.proofs.Monotone.{mem-from_first, asks-labels}
use Rattle.wrap_rules.proofs.Suffix.{suffix-split, suffix-planned}
use Rattle.wrap_rules.proofs.Plans.{plan-length, plan-bits, plan-seeds, plan-closed, plan-least, plan-eligible, plan-rises, plan-more-seeds}
use Rattle.order_analysis.specs.Promise.{seeds_of, whole_plan, whole_verdict}
use Rattle.order_analysis.proofs.Seeds.{risk-seed, row-seed, seed-cases}
use Rattle.promises.specs.Changes.{with_seed, with_imports}
use Rattle.promises.specs.Statements.{PlanIsLeast, WholePlanIsLeast, MoreSeedsKeepThePlan, MoreSeedRowsKeepTheWholePlan, MoreImportsKeepThePlan, unplanned, AllEligible, WholePlanKeepsTheOrder, LeavesPlan, PlanCallLeavesThePlan, WholeCallLeavesThePlan}
use Rattle.promises.proofs.Same.{seed-plan, seed-risk, seed-roots, imports-orders, imports-eligible, imports-asks}

pub plan_is_least : PlanIsLeast
unfolding PlanIsLeast plan_of Within Closed Bits
plan_is_least p seeds =
    record {
      holds = record {
        marks = plan-length (orders_of p) (labels_of p) p seeds;
        seeded = λ m s e. plan-seeds (orders_of p) (labels_of p) p seeds m e s;
        closed = λ rule m l a. plan-closed (orders_of p) (labels_of p) p seeds rule m (omega (arith, plan-length (orders_of p) (labels_of p) p seeds)) a;
      };
      bits = plan-bits (orders_of p) (labels_of p) p seeds;
      members = plan-eligible (orders_of p) (labels_of p) p seeds;
      least = λ S c m h. plan-least (orders_of p) (labels_of p) p seeds S c.marks (λ x e s. c.seeded x s e) (λ rule x l a. c.closed rule x (omega (arith, c.marks)) a) m h;
    }

pub whole_plan_is_least : WholePlanIsLeast
unfolding WholePlanIsLeast whole_plan PlanIsLeast
whole_plan_is_least p = plan_is_least p (seeds_of p)

pub more_seeds_keep_the_plan : MoreSeedsKeepThePlan
unfolding MoreSeedsKeepThePlan plan_of Within
more_seeds_keep_the_plan p seeds seeds' h = plan-more-seeds (orders_of p) (labels_of p) p seeds seeds' h

pub more_seed_rows_keep_the_whole_plan : MoreSeedRowsKeepTheWholePlan
unfolding MoreSeedRowsKeepTheWholePlan MoreSeedsKeepThePlan whole_plan
more_seed_rows_keep_the_whole_plan p rows h m e =
    ap (λ (plan : List ℕ). has plan m) (seed-plan p rows (seeds_of (with_seed p rows))) ∙ more_seeds_keep_the_plan p (seeds_of p) (seeds_of (with_seed p rows)) more m e
  where
    more : (x : ℕ) → elem x (seeds_of p) ≡ true → elem x (seeds_of (with_seed p rows)) ≡ true
    more x s =
        ⊎_elim
        (λ r. risk-seed (with_seed p rows) r.0 x (subst (Memᴰ r.0) (sym (seed-roots p rows)) r.1) (ap (λ (risk : List ℕ). has risk x) (seed-risk p rows r.0) ∙ r.2))
        (λ r. row-seed (with_seed p rows) x (h x r))
        (seed-cases p x s)

-- of accepted projects
pub more-imports : (p : Project) (froms tos seeds : List ℕ) → Accepted p → Accepted (with_imports p froms tos) → MoreImports p (with_imports p froms tos)
    → (m : ℕ) → has (plan_of p seeds) m ≡ true → has (plan_of (with_imports p froms tos) seeds) m ≡ true
unfolding plan_of Within
more-imports p froms tos seeds ok ok' more =
    let q : Project = with_imports p froms tos in
    plan-rises (orders_of p) (orders_of q) (labels_of p) (labels_of q) p q seeds seeds refl (λ m e s. (imports-eligible p froms tos m ∙ e, s))
    (λ rule S n m e.
    ap (λ (orders : List (List ℕ)). asks orders (labels_of q) q rule S m) (imports-orders p froms tos)
    ∙ imports-asks p froms tos (orders_of p) (labels_of q) rule S m
    ∙ asks-labels (labels_of p) (labels_of q) (component-grows p q more (accepted-fit p ok) (accepted-fit q ok') refl) (orders_of p) p rule S m e)

pub more_imports_keep_the_plan : MoreImportsKeepThePlan
unfolding MoreImportsKeepThePlan
more_imports_keep_the_plan p froms tos seeds ok ok' = more-imports p froms tos seeds (accepted p ok) (accepted (with_imports p froms tos) ok')

-- an analysed entry is one of the roots
pub analysed-root : (p : Project) (root : ℕ) → is_analysed p root ≡ true → Memᴰ root (roots p)
unfolding is_analysed analysed
analysed-root p root e =
    let r = any-mem (analysed_row p) (rows_of p.entry root) e in
    let q = mem-rows p.entry root r.1 in
    subst (λ (x : ℕ). Memᴰ x (roots p)) q.1 (Memᴰ.map (λ (row : ℕ). get_or p.entry row 0) (keep-mem (analysed_row p) (up_to (length p.entry)) (up_to-mem q.0) r.2))

-- no module stands twice in the expected order
expected-once : (p : Project) (root : ℕ) → Distinct (expected_of p root)
unfolding expected_of
expected-once p root = expected-distinct p.normal p.included p.record_module p.record_kind p.record_target root

module _ (p : Project) (root : ℕ) (a : is_analysed p root ≡ true) (e_e : (m : ℕ) → Memᴰ m (expected_sensitive_of p root) → eligible p m ≡ true) where
  -- rule (i): from the first planned module on all are planned
  after_first : (m : ℕ) → Memᴰ m (from_first (has (whole_plan p)) (expected_sensitive_of p root)) → has (whole_plan p) m ≡ true
  unfolding orders_of WholePlanIsLeast
  after_first m h =
      let g : eligible p m ≡ true = e_e m (mem-from_first (has (whole_plan p)) (expected_sensitive_of p root) h) in
      (whole_plan_is_least p).holds.closed suffix_rule m (eligible-in p m g)
      (suffix-planned (eligible p) (orders_of p) (whole_plan p) (expected_sensitive_of p root) m (Memᴰ.map (expected_sensitive_of p) (analysed-root p root a)) h g)

  -- a flagged eligible module is at risk, so a seed, so planned
  flagged-planned : (m : ℕ) → is_flagged (sensitive p) (eligible p) (expected_of p root) (actual_of p root) (hosts_of p root) m ≡ true → eligible p m ≡ true → has (whole_plan p) m ≡ true
  unfolding risk_of_entry WholePlanIsLeast
  flagged-planned m f g =
      (whole_plan_is_least p).holds.seeded m
      (risk-seed p root m (analysed-root p root a) (flagged-risk (sensitive p) (eligible p) (expected_of p root) (actual_of p root) (hosts_of p root) (reaches_cycle_of p (entry_chunk_of p root)) (modules p) m (eligible-in p m g) f g))
      g

  struck : ((m : ℕ) → Memᴰ m (actual_sensitive_of p root) → eligible p m ≡ true) → unplanned (whole_plan p) (expected_sensitive_of p root) ≡ unplanned (whole_plan p) (actual_sensitive_of p root)
  unfolding expected_sensitive_of actual_sensitive_of
  struck e_a =
      struck-same (sensitive p) (eligible p) (expected_of p root) (actual_of p root) (hosts_of p root) (has (whole_plan p)) (expected-once p root) (actual-distinct p root) e_e e_a flagged-planned

pub whole_plan_keeps_the_order : WholePlanKeepsTheOrder
unfolding WholePlanKeepsTheOrder AllEligible
whole_plan_keeps_the_order p root a e_e e_a = record {
  rest = from_first (has (whole_plan p)) (expected_sensitive_of p root);
  opens = suffix-split (has (whole_plan p)) (expected_sensitive_of p root) (after_first p root a e_e);
  planned = after_first p root a e_e;
  same = struck p root a e_e e_a;
}

-- an answered call that nothing refuses
not-refused : (v : Option Refusal) (count : ℕ) → refused_of (answer v count) ≡ None → v ≡ None
not-refused None count z = refl
not-refused (Some x) count z = z

-- a call that nothing refuses leaves the new list and counts it
pub leaves : (p : Project) (plan marks marks' : List ℕ) (r : Result ℕ Refusal) (v : Option Refusal) → length plan ≡ modules p → r ≡ answer v (ones plan) → marks' ≡ after v marks plan
    → refused_of r ≡ None → LeavesPlan p plan marks r marks'
leaves p plan marks marks' r v n e w z =
    let o : v ≡ None = not-refused v (ones plan) (ap refused_of (sym e) ∙ z) in
    record {
      written = w ∙ ap (λ (k : Option Refusal). after k marks plan) o ∙ ap (λ (k : ℕ). plan ++ drop k marks) n;
      count = ap count_of e ∙ ap (λ (k : Option Refusal). count_of (answer k (ones plan))) o;
    }

pub plan_call_leaves_the_plan : PlanCallLeavesThePlan
unfolding PlanCallLeavesThePlan PlanIsLeast
plan_call_leaves_the_plan t seeds marks marks' r c =
    leaves t.project (plan_of t.project seeds) marks marks' r (plan_verdict t seeds (length marks)) (plan_is_least t.project seeds).holds.marks c.answered c.written

pub whole_call_leaves_the_plan : WholeCallLeavesThePlan
unfolding WholeCallLeavesThePlan WholePlanIsLeast
whole_call_leaves_the_plan t marks marks' r c =
    leaves t.project (whole_plan t.project) marks marks' r (whole_verdict t (length marks)) (whole_plan_is_least t.project).holds.marks c.answered c.written
