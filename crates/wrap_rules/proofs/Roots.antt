-- The analysed entries' roots, and what they reach.
-- Assumes nothing.
use mathlib.Core.Path.{◌≡◌, subst}
use mathlib.Core.Bool.{true}
use mathlib.Core.List.Memᴰ
use mathlib.Core.List.{List, Memᴰ}
use Prim.Native.Nat.{ℕ, ◌<◌}
use lib.ListN.{length, get_or}
use Rattle.lists.specs.Words.{up_to, keep}
use Rattle.lists.proofs.Laws.{and_parts, mem-keep, mem-elem, mem-up_to}
use Rattle.lists.proofs.Members.{get_d-mem}
use Rattle.walk.specs.Walk.{everywhere, post_order}
use Rattle.walk.specs.Reach.{ReachAny}
use Rattle.walk.proofs.Orders.{reach-all}
use Rattle.tables.specs.Project.{Project}
use Rattle.tables.specs.Readings.{modules, flagged, is_import, normal_target, targets_of, analysed, analysed_row}
use Rattle.tables.specs.Accepted.{Below, Accepted}
use Rattle.expected_visit.specs.OfProject.{expected_of}
use Rattle.expected_visit.proofs.Laws.{imports-in, expected-member}
use Rattle.wrap_rules.specs.Plan.{roots, reached}

module _ (p : Project) (ok : Accepted p) where
  -- a root has a row and is included
  pub root_in : (r : ℕ) → Memᴰ r (roots p) → (r < modules p) × (flagged p.included r ≡ true)
  unfolding analysed
  root_in r h =
      let q = Memᴰ.of_map (λ (row : ℕ). get_or p.entry row 0) (keep (analysed_row p) (up_to (length p.entry))) h in
      let k = mem-keep (analysed_row p) (up_to (length p.entry)) q.1 in (
        subst (λ (x : ℕ). x < modules p) q.2 (ok.values.entry q.0 (mem-up_to k.0)),
        subst (λ (x : ℕ). flagged p.included x ≡ true) q.2 (and_parts (flagged p.included (get_or p.entry q.0 0)) _ k.1).0,
      )

  pub roots-below : Below (modules p) (roots p)
  roots-below i l = (root_in (get_or (roots p) i 0) (get_d-mem (roots p) i l)).0

  -- what stands in a root's expected order is reached
  pub expected-reached : (root m : ℕ) → Memᴰ root (roots p) → Memᴰ m (expected_of p root) → reached p m ≡ true
  unfolding reached ReachAny expected_of
  expected-reached root m h i =
      let succ : ℕ → List ℕ = targets_of is_import normal_target p.normal p.record_module p.record_kind p.record_target in
      mem-elem m (post_order succ everywhere (modules p) (roots p))
      (reach-all succ (modules p) (λ x y l. imports-in p.normal p.record_module p.record_kind p.record_target x y) (roots p) (λ r k. (root_in r k).0) m
      (root, h, (expected-member p.normal p.included p.record_module p.record_kind p.record_target root m i).path))
