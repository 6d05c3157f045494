-- Demand 3 for any way of calling whose accepted calls keep the operations' promises.
-- Assumes nothing.
use Rattle.std.specs.Prelude.{Option, None, Some, Result}
use mathlib.Core.Path.{◌≡◌, refl, sym, ap, subst, ◌∙◌}
use mathlib.Core.Bool.{Bool, true}
use mathlib.Core.List.{List, ◌++◌}
use Prim.Native.Nat.{ℕ}
use lib.ListN.{length, take, drop}
use lib.Seq.{take_at, drop_at}
use lib.Dec.{leb}
use Rattle.lists.specs.Words.{has, ones}
use Rattle.tables.specs.Project.{Project}
use Rattle.tables.specs.Readings.{modules}
use Rattle.tables.specs.Accepted.{Accepted}
use Rattle.tables.specs.Answers.{answer, refused_of, count_of, verdict}
use Rattle.tables.specs.declared.Refusal.{Refusal}
use Rattle.table.specs.Table.{Lent}
use Rattle.seeds.specs.Seeds.{seeds_fit}
use Rattle.wrap_rules.specs.Plan.{expected_sensitive_of}
use Rattle.at_risk.specs.Promise.{actual_sensitive_of}
use Rattle.wrap_plan.specs.Promise.{plan_of, plan_verdict, PlanFromSeeds}
use Rattle.order_analysis.specs.Promise.{whole_plan, whole_verdict, WholeAnalysis}
use Rattle.chunk_cycles.specs.Paths.{MoreImports}
use Rattle.promises.specs.Statements.{PlanIsLeast, WholePlanIsLeast, MoreSeedsKeepThePlan, MoreSeedRowsKeepTheWholePlan, WholePlanKeepsTheOrder, LeastPlan, SameOrder, PlanCallLeavesThePlan, WholeCallLeavesThePlan}
use Rattle.promises.proofs.Theorems.{plan_is_least, whole_plan_is_least, more_seeds_keep_the_plan, more_seed_rows_keep_the_whole_plan, more-imports, whole_plan_keeps_the_order, plan_call_leaves_the_plan, whole_call_leaves_the_plan}
use Rattle.caller_promises.specs.Ways.{Left, marks_in, Way}
use Rattle.caller_promises.specs.DemandThree.{LeavesLeast, Keeps, DemandThree}

-- what is known of an accepted call: what it was lent, accepted, and its equation
pub record Held (plan : List ℕ) (l : Left) : Type 0 where
  pub tested : Accepted l.project
  pub size : length plan ≡ modules l.project
  pub written : l.left ≡ plan ++ drop (modules l.project) l.slice
  pub count : l.count ≡ ones plan

module _ {plan : List ℕ} {l : Left} (h : Held plan l) where
  marks-are : marks_in l ≡ plan
  marks-are = ap (take (modules l.project)) h.written ∙ take_at plan (drop (modules l.project) l.slice) (modules l.project) h.size

  past-stays : drop (modules l.project) l.left ≡ drop (modules l.project) l.slice
  past-stays = ap (drop (modules l.project)) h.written ∙ drop_at plan (drop (modules l.project) l.slice) (modules l.project) h.size

  leaves-least : {seeds : List ℕ} → LeastPlan l.project seeds plan → LeavesLeast seeds l
  leaves-least {seeds} least =
      let e : plan ≡ marks_in l = sym marks-are in
      record { least = subst (LeastPlan l.project seeds) e least; count = h.count ∙ ap ones e; past = past-stays }

keeps : {plan plan' : List ℕ} {l l' : Left} → Held plan l → Held plan' l' → ((m : ℕ) → has plan m ≡ true → has plan' m ≡ true) → Keeps l l'
keeps h h' k m e = ap (λ (s : List ℕ). has s m) (marks-are h') ∙ k m (ap (λ (s : List ℕ). has s m) (sym (marks-are h)) ∙ e)

module _ (w : Way) (plans : (seeds : List ℕ) (c : w.PlanCall seeds) → Held (plan_of (w.of_plan seeds c).project seeds) (w.of_plan seeds c))
    (wholes : (c : w.WholeCall) → Held (whole_plan (w.of_whole c).project) (w.of_whole c)) where
  pub demand-three : DemandThree w
  unfolding PlanIsLeast WholePlanIsLeast MoreSeedsKeepThePlan MoreSeedRowsKeepTheWholePlan WholePlanKeepsTheOrder
  demand-three = record {
    plan_is_least = λ seeds c. leaves-least (plans seeds c) (plan_is_least (w.of_plan seeds c).project seeds);
    whole_plan_is_least = λ c. leaves-least (wholes c) (whole_plan_is_least (w.of_whole c).project);
    more_seeds = λ seeds seeds' c c' same more.
        keeps (plans seeds c) (plans seeds' c')
        (subst (λ (p : Project). (m : ℕ) → has (plan_of (w.of_plan seeds c).project seeds) m ≡ true → has (plan_of p seeds') m ≡ true) (sym same)
        (more_seeds_keep_the_plan (w.of_plan seeds c).project seeds seeds' more));
    more_seed_rows = λ c c' rows same more.
        keeps (wholes c) (wholes c')
        (subst (λ (p : Project). (m : ℕ) → has (whole_plan (w.of_whole c).project) m ≡ true → has (whole_plan p) m ≡ true) (sym same)
        (more_seed_rows_keep_the_whole_plan (w.of_whole c).project rows more));
    more_imports = λ seeds c c' froms tos same more.
        let p : Project = (w.of_plan seeds c).project in
        keeps (plans seeds c) (plans seeds c')
        (subst (λ (q : Project). (m : ℕ) → has (plan_of p seeds) m ≡ true → has (plan_of q seeds) m ≡ true) (sym same)
        (more-imports p froms tos seeds (plans seeds c).tested (subst Accepted same (plans seeds c').tested) (subst (MoreImports p) same more)));
    keeps_the_order = λ c root a e f.
        let p : Project = (w.of_whole c).project in
        subst (λ (s : List ℕ). SameOrder s (expected_sensitive_of p root) (actual_sensitive_of p root)) (sym (marks-are (wholes c))) (whole_plan_keeps_the_order p root a e f);
  }

-- nothing refuses an accepted call, nor its project

none-refused : (v : Option Refusal) (count : ℕ) (r : Result ℕ Refusal) → r ≡ answer v count → refused_of r ≡ None → v ≡ None
none-refused None count r e z = refl
none-refused (Some x) count r e z = ap refused_of (sym e) ∙ z

none-tested : (v : Option Refusal) (fits room : Bool) → verdict v fits room ≡ None → v ≡ None
none-tested None fits room e = refl
none-tested (Some x) fits room e = e

module _ (t : Lent) (tests : t.refused ≡ None → Accepted t.project) (slice left : List ℕ) (r : Result ℕ Refusal) (ok : refused_of r ≡ None) (count : ℕ) (counts : count ≡ count_of r) where
  abbrev made : Left
  made = record { project = t.project; slice = slice; left = left; count = count }

  pub plan-held : (seeds : List ℕ) → PlanFromSeeds t seeds slice r left → Held (plan_of t.project seeds) made
  unfolding PlanIsLeast PlanCallLeavesThePlan
  plan-held seeds h =
      let q = plan_call_leaves_the_plan t seeds slice left r h ok in
      let v : Option Refusal = plan_verdict t seeds (length slice) in
      record {
        tested = tests (none-tested t.refused (seeds_fit (modules t.project) seeds) (leb (modules t.project) (length slice)) (none-refused v (ones (plan_of t.project seeds)) r h.answered ok));
        size = (plan_is_least t.project seeds).holds.marks;
        written = q.written;
        count = counts ∙ q.count;
      }

  pub whole-held : WholeAnalysis t slice r left → Held (whole_plan t.project) made
  unfolding WholePlanIsLeast WholeCallLeavesThePlan
  whole-held h =
      let q = whole_call_leaves_the_plan t slice left r h ok in
      let v : Option Refusal = whole_verdict t (length slice) in
      record {
        tested = tests (none-tested t.refused true (leb (modules t.project) (length slice)) (none-refused v (ones (whole_plan t.project)) r h.answered ok));
        size = (whole_plan_is_least t.project).holds.marks;
        written = q.written;
        count = counts ∙ q.count;
      }
