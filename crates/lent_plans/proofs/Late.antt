-- The promises of specs/Late, inhabited.
-- Assumes nothing.
use mathlib.Core.Path.{◌≡◌, sym, ap, subst, ◌∙◌}
use mathlib.Core.Logic.{⊎_elim}
use mathlib.Core.Bool.{false, ◌&&◌, ◌||◌, or-false, true≢false}
use mathlib.Core.List.{List, []}
use Prim.Native.Nat.{ℕ}
use lib.ListN.{drop}
use lib.Seq.{take_at}
use Rattle.lists.specs.Words.{elem, has, ones}
use Rattle.lists.proofs.Laws.{iff-eq, and-join, or_parts, or_left, or_right, elem_mem, mem-elem}
use Rattle.walk.specs.Joining.{set_of, Joins}
use Rattle.walk.proofs.Joins.{joins-weaker, joins-place, joins-count, StartOrAsked, Order, close-order}
use Rattle.tables.specs.Project.{Project}
use Rattle.tables.specs.Readings.{modules}
use Rattle.table.specs.Table.{Lent}
use Rattle.tables.specs.Answers.{count_of}
use Rattle.chunk_cycles.specs.Cycles.{labels_of}
use Rattle.eligibility.specs.Eligible.{eligible}
use Rattle.wrap_rules.specs.Plan.{asked, start, plan_from, orders_of}
use Rattle.wrap_rules.proofs.Monotone.{asked-monotone, asked-asks}
use Rattle.wrap_rules.proofs.Plans.{start-length, start_has, plan-same}
use Rattle.wrap_plan.specs.Promise.{plan_of}
use Rattle.promises.specs.Statements.{MoreSeedsKeepThePlan, LeavesPlan, PlanIsLeast, PlanCallLeavesThePlan}
use Rattle.lent_plans.specs.Late.{MembersAre, LateSeedsJoin, FinishedPlansStay, AskedFor, ruled, MayJoin, as_seed, by_rule, JoiningOrder, PlansJoinInOrder, AcceptedCall, marked, LateCallsJoin, FinishedCallsStay, CallsJoinInOrder}
use Rattle.promises.proofs.Theorems.{plan_is_least, more_seeds_keep_the_plan, plan_call_leaves_the_plan}

pub late_seeds_join : LateSeedsJoin
unfolding LateSeedsJoin MembersAre MoreSeedsKeepThePlan PlanIsLeast plan_of
late_seeds_join p seeds later grown all g a =
    plan-same (orders_of p) (labels_of p) p grown all
    (λ m e h.
    ⊎_elim (more_seeds_keep_the_plan p seeds all (λ x s. a x ∙ or_left (elem x seeds) (elem x later) s) m)
    (λ l. (plan_is_least p all).holds.seeded m (a m ∙ or_right (elem m seeds) (elem m later) l) e)
    (or_parts (has (plan_of p seeds) m) (elem m later) (sym (g m) ∙ h)))
    (λ m e h.
    (plan_is_least p grown).holds.seeded m
    (g m ∙ ⊎_elim (λ s. or_left (has (plan_of p seeds) m) (elem m later) ((plan_is_least p seeds).holds.seeded m s e)) (or_right (has (plan_of p seeds) m) (elem m later)) (or_parts (elem m seeds) (elem m later) (sym (a m) ∙ h)))
    e)

pub finished_plans_stay : FinishedPlansStay
unfolding FinishedPlansStay LateSeedsJoin MembersAre
finished_plans_stay p seeds members h =
    late_seeds_join p seeds [] members seeds (λ m. h m ∙ sym (or-false (has (plan_of p seeds) m))) (λ m. sym (or-false (elem m seeds)))

module _ (p : Project) (seeds : List ℕ) where
  -- who is in at the start or asked for may join
  named : (before : List ℕ) (m : ℕ) → StartOrAsked (asked (orders_of p) (labels_of p) p) (modules p) (start (orders_of p) (labels_of p) p seeds) before m → MayJoin p seeds before m
  named before m h =
      ⊎_elim (λ s. let r = start_has (orders_of p) (labels_of p) p seeds m s in as_seed r.0 r.1)
      (λ a. let r = asked-asks (orders_of p) (labels_of p) p (set_of (modules p) before) m a in by_rule (ruled r.0 r.1))
      h

  -- who isn't an eligible seed joins by a rule
  unseeded : (before : List ℕ) (m : ℕ) → (eligible p m && elem m seeds) ≡ false → MayJoin p seeds before m → AskedFor p (set_of (modules p) before) m
  unseeded before m o (as_seed e s) = absurd (true≢false (sym (and-join (eligible p m) (elem m seeds) e s) ∙ o))
  unseeded before m o (by_rule a) = a

  pub plan-order : JoiningOrder p seeds (plan_of p seeds) (ones (plan_of p seeds))
  unfolding plan_of plan_from MembersAre
  plan-order = record {
    order = closing.order;
    joins = joins;
    members = members;
    counted = joins-count joins (plan_of p seeds) members;
    others = λ m h o.
        let r = joins-place joins m (closing.all m h) in
        record { before = r.before; after = r.after; splits = r.splits; joins = unseeded r.before m o r.joins };
  }
    where
      closing : Order (asked (orders_of p) (labels_of p) p) (asked-monotone (orders_of p) (labels_of p) p) (modules p) (start (orders_of p) (labels_of p) p seeds) (plan_of p seeds)
      closing = close-order (asked (orders_of p) (labels_of p) p) (asked-monotone (orders_of p) (labels_of p) p) (modules p) (start (orders_of p) (labels_of p) p seeds) (start-length (orders_of p) (labels_of p) p seeds)

      joins : Joins (MayJoin p seeds) closing.order
      joins = joins-weaker named closing.joins

      members : (m : ℕ) → elem m closing.order ≡ has (plan_of p seeds) m
      members m = iff-eq (elem m closing.order) (has (plan_of p seeds) m) (λ e. closing.only m (elem_mem m closing.order e)) (λ e. mem-elem m closing.order (closing.all m e))

-- an accepted call leaves the plan, and its marks are the plan
module _ (t : Lent) (seeds : List ℕ) (call : AcceptedCall t seeds) where
  call-leaves : LeavesPlan t.project (plan_of t.project seeds) call.slice call.answer call.left
  unfolding PlanCallLeavesThePlan
  call-leaves = plan_call_leaves_the_plan t seeds call.slice call.left call.answer call.promise call.accepted

  call-marks : marked t.project call.left ≡ plan_of t.project seeds
  unfolding PlanIsLeast
  call-marks = ap (marked t.project) call-leaves.written ∙ take_at (plan_of t.project seeds) (drop (modules t.project) call.slice) (modules t.project) (plan_is_least t.project seeds).holds.marks

pub plans_join_in_order : PlansJoinInOrder
unfolding PlansJoinInOrder
plans_join_in_order = plan-order

pub late_calls_join : LateCallsJoin
unfolding LateCallsJoin LateSeedsJoin MembersAre
late_calls_join t seeds later grown all old on whole g a =
    subst (λ (plan : List ℕ). LeavesPlan t.project plan on.slice on.answer on.left)
    (late_seeds_join t.project seeds later grown all (λ m. g m ∙ ap (λ (plan : List ℕ). has plan m || elem m later) (call-marks t seeds old)) a ∙ sym (call-marks t all whole))
    (call-leaves t grown on)

pub finished_calls_stay : FinishedCallsStay
unfolding FinishedCallsStay FinishedPlansStay MembersAre
finished_calls_stay t seeds members old again h =
    subst (λ (plan : List ℕ). LeavesPlan t.project plan again.slice again.answer again.left)
    (finished_plans_stay t.project seeds members (λ m. h m ∙ ap (λ (plan : List ℕ). has plan m) (call-marks t seeds old)) ∙ sym (call-marks t seeds old))
    (call-leaves t members again)

pub calls_join_in_order : CallsJoinInOrder
unfolding CallsJoinInOrder
calls_join_in_order t seeds call =
    subst (λ (plan : List ℕ). JoiningOrder t.project seeds plan (count_of call.answer)) (sym (call-marks t seeds call))
    (subst (JoiningOrder t.project seeds (plan_of t.project seeds)) (sym (call-leaves t seeds call).count) (plan-order t.project seeds))
