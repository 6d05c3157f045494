-- Chunk reach by labels.
-- Assumes nothing.
use Rattle.std.specs.Prelude.{◌≡◌, ℕ, ◌<◌, ◌≤◌, Bool, false, List, [], ◌∷◌, length, get_or}
use mathlib.Core.Path.{sym, ap, ◌∙◌}
use mathlib.Core.Logic.{⊎_elim}
use mathlib.Core.List.Memᴰ
use mathlib.Core.List.{Memᴰ}
use native.Mathlib.Omega.{arith}
use Rattle.lists.specs.Words.{up_to, keep, any, elem, has}
use Rattle.lists.proofs.Laws.{both, and_parts, and-join, iff-eq, any-mem, mem-any, keep-mem, elem_mem, mem-elem, mem-up_to, up_to-mem, has-marks_of, get_d-map-up_to}
use Rattle.walk.specs.Walk.{everywhere}
use Rattle.walk.proofs.Orders.{order-met}
use Rattle.tables.specs.Project.{missing}
use Rattle.tables.specs.Readings.{values_of}
use Rattle.tables.specs.Refusal.{chunk_limit}
use Rattle.strong_connection.specs.Cycles.{reached_from, cyclic, label, labels, reaches_cycle}
use Rattle.strong_connection.specs.inner.Graph.{Graph}
use Rattle.strong_connection.specs.inner.Marking.{reach_marks}
use Rattle.strong_connection.proofs.Rows.{graph-inside}
use Rattle.strong_connection.proofs.Strong.{label-test}
use Rattle.component_labels.specs.inner.Labelling.{labelled}
use Rattle.component_labels.proofs.Components.{count-cyclic}
use Rattle.chunk_cycles.specs.inner.OverTable.{labelled_at}

module _ (from to : List ℕ) (n : ℕ) (few : n ≤ chunk_limit) (g : Graph from to n) where
  abbrev succ : ℕ → List ℕ
  succ = values_of from to

  limit : n ≤ missing
  limit = omega arith

  reached-in : (c d : ℕ) → Memᴰ d (reached_from n succ c) → d < n
  unfolding reached_from
  reached-in c d h = (order-met succ everywhere n (c ∷ []) d h).0

  -- a reached chunk has a label exactly if a reached chunk is cyclic
  pub reach-test : (c : ℕ) → any (labelled_at (reach_marks n succ c) (labels n succ)) (up_to n) ≡ reaches_cycle n succ c
  unfolding reaches_cycle labels
  reach-test c =
      let s : ℕ → List ℕ = succ in
      let test : ℕ → Bool = labelled_at (reach_marks n s c) (labels n s) in
      let at : (d : ℕ) → d < n → labelled (get_or (labels n s) d missing) ≡ cyclic n s d =
      λ d k. ap labelled (get_d-map-up_to (label n s) n d missing k) ∙ label-test n s (graph-inside g) limit d k in
      let in_reach : (d : ℕ) → d < n → has (reach_marks n s c) d ≡ elem d (reached_from n s c) = λ d k. has-marks_of (λ (x : ℕ). elem x (reached_from n s c)) n d k in
      iff-eq (any test (up_to n)) (any (cyclic n s) (reached_from n s c))
      (λ e.
      let r = any-mem test (up_to n) e in
      let k = mem-up_to r.1 in
      let b = and_parts (has (reach_marks n s c) r.0) (labelled (get_or (labels n s) r.0 missing)) r.2 in
      mem-any (cyclic n s) (reached_from n s c) (elem_mem r.0 (reached_from n s c) (sym (in_reach r.0 k) ∙ b.0)) (sym (at r.0 k) ∙ b.1))
      (λ e.
      let r = any-mem (cyclic n s) (reached_from n s c) e in
      let k = reached-in c r.0 r.1 in
      mem-any test (up_to n) (up_to-mem k) (and-join (has (reach_marks n s c) r.0) (labelled (get_or (labels n s) r.0 missing)) (in_reach r.0 k ∙ mem-elem r.0 (reached_from n s c) r.1) (at r.0 k ∙ r.2)))

  -- where no chunk has a label, no cyclic one is reached
  pub reach-none : (c : ℕ) → length (keep labelled (labels n succ)) ≡ 0 → false ≡ reaches_cycle n succ c
  unfolding reaches_cycle
  reach-none c e =
      let s : ℕ → List ℕ = succ in
      ⊎_elim
      (λ h. let r = any-mem (cyclic n s) (reached_from n s c) h in absurd (none (keep (cyclic n s) (up_to n)) (sym (count-cyclic from to n few g) ∙ e) (keep-mem (cyclic n s) (up_to n) (up_to-mem (reached-in c r.0 r.1)) r.2)))
      (λ h. sym h)
      (both (any (cyclic n s) (reached_from n s c)))
    where
      none : (xs : List ℕ) {x : ℕ} → length xs ≡ 0 → Memᴰ x xs → ⊥
      none [] e h = Memᴰ.not-nil h
      none (y ∷ ys) e h = omega arith
