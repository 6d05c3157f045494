-- How labels come about: the component of a chunk by the marks of two walks, and the labels of the components that the edges so far lead into.
-- Assumes nothing.
use Rattle.std.specs.Prelude.{◌≡◌, ℕ, ◌+◌, ◌<◌, ◌≤◌, Bool, true, false, cond, ◌&&◌, List, map, length, get_or}
use mathlib.Core.Path.{sym, ap, ◌∙◌}
use mathlib.Core.Logic.{⊎_elim}
use mathlib.Core.Bool.{true≢false}
use mathlib.Core.List.{Memᴰ}
use native.Mathlib.Decide.{ℕ_discrete}
use native.Mathlib.Omega.{arith}
use lib.Seq.{ext_get_or}
use Rattle.lists.specs.Words.{up_to, keep, any, elem, has}
use Rattle.lists.proofs.Laws.{both, and_parts, and-join, iff-eq, any-mem, mem-any, keep-cong, mem-up_to, has_in, has-marks_of, length-marks_of, get_d-map-up_to, length-map-up_to}
use Rattle.lists.proofs.Maps.{map-up_to-cong, map-up_to-self, keep-map}
use Rattle.walk.specs.Reach.{Reach, Reach⁺}
use Rattle.tables.specs.Project.{missing}
use Rattle.tables.specs.Readings.{first_of, values_of}
use Rattle.tables.specs.Refusal.{chunk_limit}
use Rattle.strong_connection.specs.Cycles.{reached_from, connected, component, cyclic, label, labels}
use Rattle.strong_connection.specs.inner.Graph.{Graph}
use Rattle.strong_connection.specs.inner.Marking.{reach_marks}
use Rattle.component_labels.specs.inner.Labelling.{in_both, relabelled, component_labelled, labelled}
use Rattle.tables.proofs.OwnerRows.{values-row}
use Rattle.strong_connection.proofs.Strong.{reached-reach, reach-reached, connected-reach, reach-connected, connected-in, connected-self, connected-sym, connected-trans, cyclic-same, cyclic-reach, reach-cyclic, lowest, lowest-in, lowest-same, label-cyclic, label-none, label-test}
use Rattle.strong_connection.proofs.Rows.{graph-inside, graph-back, reach-back}
use Rattle.component_labels.proofs.Numbers.{circle-rises}

module _ (from to : List ℕ) (n : ℕ) (g : Graph from to n) where
  abbrev succ : ℕ → List ℕ
  succ = values_of from to

  abbrev pred : ℕ → List ℕ
  pred = values_of to from

  inside : (m y : ℕ) → m < n → Memᴰ y (succ m) → y < n
  inside = graph-inside g

  module _ (c : ℕ) (l : c < n) where
    -- the marks of the walk backward are those of the chunks that lead to c

    behind-reach : (d : ℕ) → has (reach_marks n pred c) d ≡ true → Reach succ d c
    behind-reach d e =
        let k : d < n = omega (arith, has_in (reach_marks n pred c) d e, length-marks_of (λ (x : ℕ). elem x (reached_from n pred c)) n) in
        reach-back to from (sym g.lengths) (reached-reach n pred (graph-inside (graph-back g)) c d l (sym (has-marks_of (λ (x : ℕ). elem x (reached_from n pred c)) n d k) ∙ e))

    reach-behind : (d : ℕ) → d < n → Reach succ d c → has (reach_marks n pred c) d ≡ true
    reach-behind d k p = has-marks_of (λ (x : ℕ). elem x (reached_from n pred c)) n d k ∙ reach-reached n pred (graph-inside (graph-back g)) c d l (reach-back from to g.lengths p)

    -- c is cyclic exactly if one of its edges leads to a chunk that leads to c
    cyclic-test : any (has (reach_marks n pred c)) (succ c) ≡ cyclic n succ c
    unfolding Reach⁺
    cyclic-test =
        iff-eq (any (has (reach_marks n pred c)) (succ c)) (cyclic n succ c)
        (λ e. let r = any-mem (has (reach_marks n pred c)) (succ c) e in reach-cyclic n succ inside c l (r.0, r.1, behind-reach r.0 r.2))
        (λ e. let r = cyclic-reach n succ inside c l e in mem-any (has (reach_marks n pred c)) (succ c) r.1 (reach-behind r.0 (inside c r.0 l r.1) r.2))

    pub led-back : {marks : List ℕ} {r : Bool} → marks ≡ reach_marks n pred c → r ≡ any (has marks) (succ c) → r ≡ cyclic n succ c
    led-back q e = e ∙ rw q cyclic-test

    -- c's component is what both walks meet
    both-test : (d : ℕ) → d < n → in_both (reach_marks n succ c) (reach_marks n pred c) d ≡ connected n succ c d
    both-test d k =
        let ahead : has (reach_marks n succ c) d ≡ elem d (reached_from n succ c) = has-marks_of (λ (x : ℕ). elem x (reached_from n succ c)) n d k in
        iff-eq (in_both (reach_marks n succ c) (reach_marks n pred c) d) (connected n succ c d)
        (λ e.
        let b = and_parts (has (reach_marks n succ c) d) (has (reach_marks n pred c) d) e in
        reach-connected n succ inside c d l (reached-reach n succ inside c d l (sym ahead ∙ b.0)) (behind-reach d b.1))
        (λ e.
        let r = connected-reach n succ inside c d l e in
        and-join (has (reach_marks n succ c) d) (has (reach_marks n pred c) d) (ahead ∙ reach-reached n succ inside c d l r.0) (reach-behind d k r.1))

    -- its lowest row is the first that both walks meet
    lowest-test : first_of (keep (in_both (reach_marks n succ c) (reach_marks n pred c)) (up_to n)) ≡ lowest n succ inside c
    unfolding component
    lowest-test = ap first_of (keep-cong (in_both (reach_marks n succ c) (reach_marks n pred c)) (connected n succ c) (up_to n) (λ d h. both-test d (mem-up_to h)))

    module _ (labels : List ℕ) (len : length labels ≡ n) where
      pub component-cyclic : cyclic n succ c ≡ true
          → relabelled (in_both (reach_marks n succ c) (reach_marks n pred c)) (first_of (keep (in_both (reach_marks n succ c) (reach_marks n pred c)) (up_to n))) labels ≡ component_labelled n succ c labels
      component-cyclic e =
          let low : ℕ = lowest n succ inside c in
          ap (λ (x : ℕ). relabelled (in_both (reach_marks n succ c) (reach_marks n pred c)) x labels) lowest-test
          ∙ map-up_to-cong (λ (d : ℕ). cond (in_both (reach_marks n succ c) (reach_marks n pred c) d) low (get_or labels d 0)) (λ (d : ℕ). cond (cyclic n succ c && connected n succ c d) low (get_or labels d 0)) (length labels)
          (λ d k. ap (λ (b : Bool). cond b low (get_or labels d 0)) (both-test d (omega arith) ∙ sym (ap (λ (b : Bool). b && connected n succ c d) e)))

      pub component-none : cyclic n succ c ≡ false → labels ≡ component_labelled n succ c labels
      component-none e =
          sym (map-up_to-self 0 labels)
          ∙ map-up_to-cong (λ (d : ℕ). get_or labels d 0) (λ (d : ℕ). cond (cyclic n succ c && connected n succ c d) (lowest n succ inside c) (get_or labels d 0)) (length labels)
          (λ d k. sym (ap (λ (b : Bool). cond (b && connected n succ c d) (lowest n succ inside c) (get_or labels d 0)) e))

-- by labels

module _ (from to : List ℕ) (n : ℕ) (few : n ≤ chunk_limit) (g : Graph from to n) where
  limit : n ≤ missing
  limit = omega arith

  -- the labels below the mark are those of the cyclic chunks
  pub count-cyclic : length (keep labelled (labels n (succ from to n g))) ≡ length (keep (cyclic n (succ from to n g)) (up_to n))
  unfolding labels
  count-cyclic =
      keep-map labelled (label n (succ from to n g)) (up_to n)
      ∙ ap length (keep-cong (λ (d : ℕ). labelled (label n (succ from to n g) d)) (cyclic n (succ from to n g)) (up_to n) (λ d h. label-test n (succ from to n g) (inside from to n g) limit d (mem-up_to h)))

-- by edges

-- before a row is looked at: a component has its label throughout or nowhere, and it has it if it is cyclic and has the target of an earlier
-- row along which the numbers don't fall
pub record LabelledBelow (from to numbers labels : List ℕ) (n row : ℕ) : Type 0 where
  pub few : n ≤ chunk_limit
  pub graph : Graph from to n
  pub len : length labels ≡ n
  pub whole : (c d : ℕ) → c < n → connected n (values_of from to) c d ≡ true → (get_or labels c 0 ≡ missing → ⊥) → get_or labels d 0 ≡ label n (values_of from to) d
  pub targets : (i : ℕ) → i < row → get_or numbers (get_or from i 0) 0 ≤ get_or numbers (get_or to i 0) 0 → cyclic n (values_of from to) (get_or to i 0) ≡ true → get_or labels (get_or to i 0) 0 ≡ missing → ⊥

module _ {from to numbers : List ℕ} {n : ℕ} where
  module _ {labels : List ℕ} {row : ℕ} (b : LabelledBelow from to numbers labels n row) where
    abbrev edges : ℕ → List ℕ
    edges = values_of from to

    into : (m y : ℕ) → m < n → Memᴰ y (edges m) → y < n
    into = graph-inside b.graph

    abbrev v : ℕ
    v = get_or to row 0

    -- a row whose target's component is labelled, if it is cyclic
    module _ (labels' : List ℕ) (l : row < length from) (q : labels' ≡ component_labelled n edges v labels) where
      inner : v < n
      inner = b.graph.tos row l

      abbrev mine : ℕ → Bool
      mine d = cyclic n edges v && connected n edges v d

      at : (d : ℕ) → d < n → get_or labels' d 0 ≡ cond (mine d) (lowest n edges into v) (get_or labels d 0)
      at d k = ap (λ (xs : List ℕ). get_or xs d 0) q ∙ get_d-map-up_to (λ (x : ℕ). cond (mine x) (lowest n edges into v) (get_or labels x 0)) (length labels) d 0 (omega (arith, b.len))

      at-mine : (d : ℕ) → d < n → mine d ≡ true → get_or labels' d 0 ≡ label n edges d
      at-mine d k e =
          let p = and_parts (cyclic n edges v) (connected n edges v d) e in
          at d k
          ∙ ap (λ (t : Bool). cond t (lowest n edges into v) (get_or labels d 0)) e
          ∙ lowest-same n edges into v d inner p.1
          ∙ sym (label-cyclic n edges into d (cyclic-same n edges into v d inner p.1 p.0))

      at_other : (d : ℕ) → d < n → mine d ≡ false → get_or labels' d 0 ≡ get_or labels d 0
      at_other d k e = at d k ∙ ap (λ (t : Bool). cond t (lowest n edges into v) (get_or labels d 0)) e

      mine-same : (c d : ℕ) → connected n edges c d ≡ true → mine c ≡ true → mine d ≡ true
      mine-same c d e h =
          let p = and_parts (cyclic n edges v) (connected n edges v c) h in
          and-join (cyclic n edges v) (connected n edges v d) p.0 (connected-trans n edges into v c d inner p.1 e)

      whole-after : (c d : ℕ) → c < n → connected n edges c d ≡ true → (get_or labels' c 0 ≡ missing → ⊥) → get_or labels' d 0 ≡ label n edges d
      whole-after c d m e k =
          let i = connected-in n edges into c d m e in
          ⊎_elim
          (λ h. at-mine d i h)
          (λ h.
          let g : mine c ≡ false = ⊎_elim (λ t. absurd (true≢false (sym (mine-same c d e t) ∙ h))) (λ t. t) (both (mine c)) in
          at_other d i h ∙ b.whole c d m e (λ x. k (at_other c m g ∙ x)))
          (both (mine d))

      -- a cyclic chunk's label is a row
      label-row : (d : ℕ) → d < n → cyclic n edges d ≡ true → label n edges d ≡ missing → ⊥
      label-row d k y e = omega (arith, label-cyclic n edges into d y, lowest-in n edges into d k, b.few)

      targets-after : (i : ℕ) → i < row + 1 → get_or numbers (get_or from i 0) 0 ≤ get_or numbers (get_or to i 0) 0 → cyclic n edges (get_or to i 0) ≡ true → get_or labels' (get_or to i 0) 0 ≡ missing → ⊥
      targets-after i m r y e =
          let k : get_or to i 0 < n = b.graph.tos i (omega arith) in
          ⊎_elim
          (λ h. label-row (get_or to i 0) k y (sym (at-mine (get_or to i 0) k h) ∙ e))
          (λ h. pick h (sym (at_other (get_or to i 0) k h) ∙ e) (ℕ_discrete i row))
          (both (mine (get_or to i 0)))
        where
          own : i ≡ row → mine (get_or to i 0) ≡ true
          own x = and-join (cyclic n edges v) (connected n edges v (get_or to i 0)) (rw x at y) (rw x (connected-self n edges into v inner))

          pick : mine (get_or to i 0) ≡ false → get_or labels (get_or to i 0) 0 ≡ missing → Dec (i ≡ row) → ⊥
          pick h f (yes x) = true≢false (sym (own x) ∙ h)
          pick h f (no x) = b.targets i (omega arith) r y f

      pub labelled_step : LabelledBelow from to numbers labels' n (row + 1)
      labelled_step = record { few = b.few; graph = b.graph; len = ap length q ∙ length-map-up_to (λ (x : ℕ). cond (mine x) (lowest n edges into v) (get_or labels x 0)) (length labels) ∙ b.len; whole = whole-after; targets = targets-after }

    -- after the last row
    module _ (l : length from ≤ row) where
      num : ℕ → ℕ
      num c = get_or numbers c 0

      at-cyclic : (d : ℕ) → d < n → cyclic n edges d ≡ true → get_or labels d 0 ≡ label n edges d
      unfolding num
      at-cyclic d k y =
          let r = circle-rises edges num d (cyclic-reach n edges into d k y) in
          let t : ℕ = r.target in
          let c : connected n edges d t ≡ true = reach-connected n edges into d t k r.there r.back in
          let x = values-row from to r.source t r.edge in
          b.whole t d (connected-in n edges into d t k c) (connected-sym n edges into d t k c)
          (λ e.
          b.targets x.0 (omega (arith, x.1)) (rw (x.2, x.3) r.rises) (ap (cyclic n edges) x.3 ∙ cyclic-same n edges into d t k c y) (ap (λ (z : ℕ). get_or labels z 0) x.3 ∙ e))

      at_none : (d : ℕ) → d < n → cyclic n edges d ≡ false → get_or labels d 0 ≡ label n edges d
      at_none d k y = pick (ℕ_discrete (get_or labels d 0) missing)
        where
          pick : Dec (get_or labels d 0 ≡ missing) → get_or labels d 0 ≡ label n edges d
          pick (yes e) = e ∙ sym (label-none n edges into d y)
          pick (no e) = b.whole d d k (connected-self n edges into d k) e

      pub labelled-end : labels ≡ Rattle.strong_connection.specs.Cycles.labels n edges
      unfolding Rattle.strong_connection.specs.Cycles.labels
      labelled-end =
          ext_get_or 0 labels (map (label n edges) (up_to n)) (b.len ∙ sym (length-map-up_to (label n edges) n))
          (λ d h.
          let k : d < n = omega (arith, b.len) in
          ⊎_elim (at-cyclic d k) (at_none d k) (both (cyclic n edges d)) ∙ sym (get_d-map-up_to (label n edges) n d 0 k))
