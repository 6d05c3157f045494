-- Under 01's premises module evaluation gives the expected order of its root. Whether the project passes the tests is not asked.
-- Assumes nothing.
use mathlib.Core.Path.{◌≡◌, sym, ap, subst, ◌∙◌}
use mathlib.Core.Bool.{cond}
use mathlib.Core.List.Memᴰ
use mathlib.Core.List.{List, [], ◌∷◌, Memᴰ}
use Prim.Native.Nat.{ℕ, ◌≤◌, ◌<◌}
use lib.ListN.{get_or}
use borrow.Author.Tests.{ne_eqb}
use Rattle.lists.specs.Words.{keep}
use Rattle.lists.proofs.Laws.{mem-keep, keep_all}
use Rattle.lists.proofs.Maps.{flat-ones}
use Rattle.walk.specs.Walk.{everywhere, post_order}
use Rattle.walk.specs.Reach.{Reach, ReachAny, passing, through}
use Rattle.walk.proofs.Orders.{reach-next, reach-more, order-reach}
use Rattle.tables.specs.Project.{Project, missing}
use Rattle.tables.specs.Readings.{modules, flagged, rows_of, is_import, resolved, normal_target, targets_of}
use Rattle.tables.proofs.Targets.{normal-in}
use Rattle.evaluation.specs.Premises.{requested_of, Reached, Premises, GivesExpectedOrder}
use Rattle.evaluation.proofs.PostOrder.{evaluation-is-post-order, evaluation-settles, evaluation-empties-the-stack}
use Rattle.evaluation.proofs.Agreement.{order-agrees}

-- what a post-order from one root lists is reached from it
order-reached : (succ : ℕ → List ℕ) (n root x : ℕ) → Memᴰ x (post_order succ everywhere n (root ∷ [])) → Reach succ root x
unfolding ReachAny
order-reached succ n root x h =
    let a = order-reach succ everywhere n (root ∷ []) x h in
    let r = Memᴰ.eq_of_singleton (mem-keep (passing everywhere n) (root ∷ []) a.1).0 in
    reach-more (through succ everywhere n) succ (λ m y s. (mem-keep (passing everywhere n) (succ m) s).0) (subst (λ (y : ℕ). Reach (through succ everywhere n) y x) r a.2)

module _ (p : Project) (root : ℕ) (premises : Premises p root) where
  -- the walk of the expected order
  abbrev followed : ℕ → List ℕ
  followed = targets_of is_import normal_target p.normal p.record_module p.record_kind p.record_target

  -- it follows all that a reached module requests
  same : (x : ℕ) → Reached p root x → requested_of p x ≡ followed x
  unfolding requested_of targets_of resolved
  same x r = sym (flat-ones _ (λ (row : ℕ). get_or p.record_target row 0) (rows_of p.record_module x) one)
    where
      one : (row : ℕ) → Memᴰ row (rows_of p.record_module x)
          → cond (is_import (get_or p.record_kind row 0)) (normal_target (resolved p.normal p.record_target row)) [] ≡ get_or p.record_target row 0 ∷ []
      one row i =
          let t : ℕ = get_or p.record_target row 0 in
          let reached : Reached p root t = reach-next (requested_of p) r (Memᴰ.map (λ (row : ℕ). get_or p.record_target row 0) i) in
          simp (premises.kinds x row r i, ne_eqb t missing (premises.targets x row r i), premises.normal t reached)

  reached-below : (x : ℕ) → Reached p root x → x < modules p
  reached-below x r = normal-in p.normal x (premises.normal x r)

  -- for every fuel from the module count on
  pub evaluation-gives-the-expected-order : (k : ℕ) → modules p ≤ k → GivesExpectedOrder p root k
  unfolding ReachAny
  evaluation-gives-the-expected-order k enough = record {
    executes =
        evaluation-is-post-order (requested_of p) (modules p) root k enough
        ∙ sym (keep_all (flagged p.included) (post_order (requested_of p) everywhere (modules p) (root ∷ [])) (λ x h. premises.included x (order-reached (requested_of p) (modules p) root x h)))
        ∙ ap (keep (flagged p.included))
        (order-agrees (requested_of p) followed everywhere (modules p) (root ∷ []) (λ x a. same x (subst (λ (y : ℕ). Reached p y x) (Memᴰ.eq_of_singleton a.1) a.2)));
    settles = evaluation-settles (requested_of p) (modules p) root k enough reached-below;
    empties = evaluation-empties-the-stack (requested_of p) (modules p) root k;
  }
