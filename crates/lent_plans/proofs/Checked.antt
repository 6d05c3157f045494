-- The promises of specs/Checked, inhabited.
-- Assumes nothing.
use Rattle.std.specs.Prelude.{Option}
use mathlib.Core.Path.{◌≡◌, refl, sym, ap}
use mathlib.Core.Bool.{Bool, true, false, not, ◌&&◌, true≢false}
use mathlib.Core.List.{List}
use Prim.Native.Nat.{ℕ, ◌<◌}
use native.Mathlib.Omega.{arith}
use lib.ListN.{length}
use lib.Dec.{eqb, leb}
use borrow.Author.Tests.{eq-eqb, le-leb}
use Rattle.lists.specs.Words.{every, elem, has}
use Rattle.lists.proofs.Laws.{and_parts, and-join, has_in, mem-every}
use Rattle.lists.proofs.Members.{mem-at}
use Rattle.tables.specs.Project.{Project}
use Rattle.tables.specs.Readings.{modules}
use Rattle.chunk_cycles.specs.Cycles.{labels_of}
use Rattle.eligibility.specs.Eligible.{eligible}
use Rattle.eligibility.proofs.Eligible.{eligible-in}
use Rattle.wrap_rules.specs.Plan.{asks, orders_of}
use Rattle.wrap_plan.specs.Promise.{plan_of}
use Rattle.plan_conditions.specs.declared.Judgement.TheVariants.{Accepted}
use Rattle.plan_conditions.specs.Form.{plan_fits}
use Rattle.plan_conditions.specs.Conditions.{Condition, only_eligible, holds_seeds, closed_under, conditions, broken, lowest, judged}
use Rattle.plan_conditions.proofs.Lowest.{lowest-none, lowest-found, lowest-missing}
use Rattle.plan_conditions.proofs.Judging.{judged-all, accepted-each, each-accepted, broken-named}
use Rattle.plan_check.specs.Promise.{judgement}
use Rattle.plan_check.proofs.Promise.{plan-marked, plan-judged}
use Rattle.lent_plans.specs.Checked.{AcceptablePlan, AcceptedExactlyIfClosed, AcceptedHoldsThePlan, ThePlanIsAccepted, BrokenNamesTheFirst, CheckCallJudges, CheckWitness}
use Rattle.marked_cases.proofs.Computing.{computing}
use Rattle.promises.proofs.Theorems.{plan_is_least}
use Rattle.promises.specs.Statements.{PlanIsLeast, LeastPlan}

-- what asks for b where it is a, and doesn't find it missing

not-both : (a b : Bool) → (a && not b) ≡ false → a ≡ true → b ≡ true
not-both a true e h = refl
not-both true false e h = absurd (true≢false e)
not-both false false e h = h

both-not : (a b : Bool) → (a ≡ true → b ≡ true) → (a && not b) ≡ false
both-not true b h = ap not (h refl)
both-not false b h = refl

module _ (p : Project) (seeds plan : List ℕ) where
  -- the lowest module that breaks a condition, if one does
  abbrev found : Condition → Option ℕ
  found c = lowest (broken p seeds plan c) (modules p)

  -- no module breaks a condition of an accepted plan
  none-breaks : judged p seeds plan ≡ Accepted → (c : Condition) (m : ℕ) → m < modules p → broken p seeds plan c m ≡ false
  unfolding judged
  none-breaks e c m l = lowest-missing (broken p seeds plan c) (modules p) m (accepted-each found 1 conditions e c (judged-all c)) l

  acceptable : plan_fits (modules p) plan ≡ true → judged p seeds plan ≡ Accepted → AcceptablePlan p seeds plan
  acceptable fits e =
      let size : length plan ≡ modules p = (plan-marked p plan fits).size in
      record {
        members = λ m h. not-both (has plan m) (eligible p m) (none-breaks e only_eligible m (omega (arith, has_in plan m h, size))) h;
        holds = record {
          marks = size;
          seeded = λ m s g. not-both (eligible p m && elem m seeds) (has plan m) (none-breaks e holds_seeds m (eligible-in p m g)) (and-join (eligible p m) (elem m seeds) g s);
          closed = λ rule m l a. not-both (asks (orders_of p) (labels_of p) p rule plan m) (has plan m) (none-breaks e (closed_under rule) m l) a;
        };
      }

  accepting : AcceptablePlan p seeds plan → judged p seeds plan ≡ Accepted
  unfolding judged
  accepting a = each-accepted found 1 conditions (λ c h. lowest-none (broken p seeds plan c) (modules p) (kept c))
    where
      kept : (c : Condition) (m : ℕ) → m < modules p → broken p seeds plan c m ≡ false
      kept only_eligible m l = both-not (has plan m) (eligible p m) (a.members m)
      kept holds_seeds m l =
          both-not (eligible p m && elem m seeds) (has plan m) (λ h. let r = and_parts (eligible p m) (elem m seeds) h in a.holds.seeded m r.1 r.0)
      kept (closed_under rule) m l = both-not (asks (orders_of p) (labels_of p) p rule plan m) (has plan m) (a.holds.closed rule m l)

pub accepted_exactly_if_closed : AcceptedExactlyIfClosed
unfolding AcceptedExactlyIfClosed
accepted_exactly_if_closed p seeds plan ok fits = (acceptable p seeds plan fits, accepting p seeds plan)

pub accepted_holds_the_plan : AcceptedHoldsThePlan
unfolding AcceptedHoldsThePlan PlanIsLeast
accepted_holds_the_plan p seeds plan ok fits e m h = (plan_is_least p seeds).least plan (acceptable p seeds plan fits e).holds m h

pub the_plan_is_accepted : ThePlanIsAccepted
unfolding ThePlanIsAccepted PlanIsLeast
the_plan_is_accepted p seeds ok =
    let l : LeastPlan p seeds (plan_of p seeds) = plan_is_least p seeds in (
      and-join (eqb (length (plan_of p seeds)) (modules p)) (every (λ (mark : ℕ). leb mark 1) (plan_of p seeds)) (eq-eqb (length (plan_of p seeds)) (modules p) l.holds.marks)
          (mem-every (λ (mark : ℕ). leb mark 1) (plan_of p seeds) (λ x h. let q = mem-at (plan_of p seeds) h in le-leb x 1 (rw (sym q.2) (l.bits q.0)))),
      accepting p seeds (plan_of p seeds) (record { members = l.members; holds = l.holds }),
    )

pub broken_names_the_first : BrokenNamesTheFirst
unfolding BrokenNamesTheFirst judged
broken_names_the_first p seeds plan i m ok e =
    let n = broken-named (found p seeds plan) 1 conditions i m e in
    let q = lowest-found (broken p seeds plan n.condition) (modules p) m n.module' in
    record {
      before = n.before;
      condition = n.condition;
      rest = n.rest;
      place = n.place;
      numbered = omega (arith, n.numbered);
      inside = q.inside;
      fails = q.holds;
      lowest = q.first;
      earlier = λ c h k l. lowest-missing (broken p seeds plan c) (modules p) k (n.earlier c h) l;
    }

pub check_call_judges : CheckCallJudges
unfolding CheckCallJudges
check_call_judges t seeds plan accepts seeds_fit plan_fits = sym (plan-judged t seeds plan accepts seeds_fit plan_fits)

pub check_witness : CheckWitness
unfolding computing judgement judged
check_witness = record { least = refl; larger = refl; wrong = refl; unseeded = refl; lacking = refl; two = refl; long = refl; stranger = refl }
