-- The promises of specs/Risks, inhabited.
-- Assumes nothing.
use mathlib.Core.Path.{◌≡◌, sym, ap, ◌∙◌}
use mathlib.Core.Bool.{Bool, not, ◌||◌}
use mathlib.Core.List.{List, ◌++◌}
use Prim.Native.Nat.{ℕ, ◌<◌}
use native.Mathlib.Omega.{arith}
use lib.ListN.{length, drop, get_or-append}
use Rattle.lists.specs.Words.{is_zero, has, marks_of}
use Rattle.lists.proofs.Laws.{marks_of-cong}
use Rattle.tables.specs.Project.{Project}
use Rattle.tables.specs.Readings.{modules}
use Rattle.std.specs.Prelude.{None, Result}
use Rattle.tables.specs.Answers.{refused_of}
use Rattle.tables.specs.declared.Refusal.{Refusal}
use Rattle.table.specs.Table.{Lent}
use Rattle.arrangement.specs.OfProject.{named, named_lent}
use Rattle.arrangement.proofs.OfProject.{named-modules}
use Rattle.at_risk.specs.Promise.{order_risk_of_entry, cycle_risk_of_entry, risk_verdict, EntryMarks}
use Rattle.at_risk.proofs.Joined.{length-order-risk, length-cycle-risk, risk-is-the-join}
use Rattle.promises.specs.Risks.{in_either, RiskIsTheJoin, JoinedCallsGiveTheRisk}
use Rattle.promises.proofs.Theorems.{leaves}
use Rattle.promises.proofs.Arranged.{others_dont_read_members}
use Rattle.promises.specs.Arranged.{OthersDontReadMembers}

pub risk_is_the_join : RiskIsTheJoin
unfolding RiskIsTheJoin
risk_is_the_join p root = risk-is-the-join p root

-- an accepted call leaves its marks
module _ (set : Project → ℕ → List ℕ) (t : Lent) (root : ℕ) (size : length (set t.project root) ≡ modules t.project)
    (marks marks' : List ℕ) (r : Result ℕ Refusal) (e : EntryMarks set t root marks r marks') (z : refused_of r ≡ None) where
  left : marks' ≡ set t.project root ++ drop (modules t.project) marks
  left = (leaves t.project (set t.project root) marks marks' r (risk_verdict t root (length marks)) size e.answered e.written z).written

  left_at : (m : ℕ) → m < modules t.project → has (set t.project root) m ≡ has marks' m
  left_at m l = sym (ap (λ (xs : List ℕ). has xs m) left ∙ ap (λ (x : ℕ). not (is_zero x)) (get_or-append (set t.project root) (drop (modules t.project) marks) 0 m (omega arith)))

others : OthersDontReadMembers
others = others_dont_read_members

pub joined_calls_give_the_risk : JoinedCallsGiveTheRisk
unfolding JoinedCallsGiveTheRisk OthersDontReadMembers
joined_calls_give_the_risk t names root early cycle early' cycle' r s a b y z =
    let p = t.project in
    let q = named p names in
    let same : modules q ≡ modules p = named-modules p names in
    let unread : cycle_risk_of_entry q root ≡ cycle_risk_of_entry p root = (others p names).cycle_risk root in
    risk-is-the-join q root
    ∙ marks_of-cong (in_either (order_risk_of_entry q root) (cycle_risk_of_entry q root)) (in_either early' cycle') (modules q)
    (λ m l.
    ap (λ (x : Bool). x || has (cycle_risk_of_entry q root) m) (left_at order_risk_of_entry (named_lent names t) root (length-order-risk q root) early early' r a y m l)
    ∙ ap (λ (xs : List ℕ). has early' m || has xs m) unread
    ∙ ap (λ (x : Bool). has early' m || x) (left_at cycle_risk_of_entry t root (length-cycle-risk p root) cycle cycle' s b z m (omega (arith, l, same))))
    ∙ ap (marks_of (in_either early' cycle')) same
