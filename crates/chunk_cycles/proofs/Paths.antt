-- What labels and chunk reach say of a project, by paths over its import rows, and that they only grow with more import rows.
-- Assumes nothing.
use Rattle.std.specs.Prelude.{◌≡◌, ℕ, ◌<◌, ◌≤◌, true, not, ◌&&◌, eqb, ◌↔◌, get_or}
use mathlib.Core.Path.{sym, ap, subst, ◌∙◌}
use mathlib.Core.Logic.{inl, inr, ⊎_elim}
use mathlib.Core.List.{Memᴰ}
use native.Mathlib.Omega.{arith}
use native.Mathlib.Decide.{dec_lt}
use lib.ListN.{length-map, get_or-eq_default}
use borrow.Author.Tests.{eqb-true, eqb-false, eq-eqb, ne_eqb}
use Rattle.lists.specs.Words.{up_to, elem}
use Rattle.lists.proofs.Laws.{both, not-true, and_parts, and-join, length-count_from, get_d-map-up_to}
use Rattle.walk.specs.Reach.{Reach, here, step, Reach⁺}
use Rattle.tables.specs.Project.{Project, missing}
use Rattle.tables.specs.Readings.{chunks}
use Rattle.strong_connection.specs.Cycles.{reached_from, connected, cyclic, label, labels}
use Rattle.chunk_cycles.specs.Cycles.{imported_by, labels_of, label_at, reaches_cycle_of}
use Rattle.chunk_cycles.specs.Paths.{Edge, Path*, stay, go, Path⁺, Connected, Cyclic, Lowest, MoreImports}
use Rattle.chunk_cycles.specs.inner.OverTable.{ImportsFit}
use Rattle.tables.proofs.OwnerRows.{values-row, row-values}
use Rattle.strong_connection.proofs.Rows.{graph-inside}
use Rattle.strong_connection.proofs.Strong.{reached-reach, reach-reached, connected-reach, reach-connected, cyclic-cases, other-cyclic, edge-cyclic, cyclic-reach, reach-cyclic, lowest, lowest-least, lowest-connected, label-cyclic, label-none, same-label, label_same, cycle-reach, reach-cycle}

module _ (p : Project) where
  -- an import row is a step

  edge-mem : {c d : ℕ} → Edge p c d → Memᴰ d (imported_by p c)
  edge-mem {c} {d} e =
      subst (λ (x : ℕ). Memᴰ x (imported_by p c)) e.to
      (subst (λ (x : ℕ). Memᴰ (get_or p.imports e.row 0) (imported_by p x)) e.from (row-values p.import_chunk p.imports e.row e.there))

  mem-edge : {c d : ℕ} → Memᴰ d (imported_by p c) → Edge p c d
  mem-edge {c} {d} h = let r = values-row p.import_chunk p.imports c d h in record { row = r.0; there = r.1; from = r.2; to = r.3 }

  path-reach : {c d : ℕ} → Path* p c d → Reach (imported_by p) c d
  path-reach (stay e) = here e
  path-reach (go e q) = step (edge-mem e) (path-reach q)

  reach-path : {c d : ℕ} → Reach (imported_by p) c d → Path* p c d
  reach-path (here e) = stay e
  reach-path (step s q) = go (mem-edge s) (reach-path q)

  path-reach⁺ : (c d : ℕ) → Path⁺ p c d → Reach⁺ (imported_by p) c d
  unfolding Path⁺ Reach⁺
  path-reach⁺ c d q = (q.0, edge-mem q.1, path-reach q.2)

  reach-path⁺ : (c d : ℕ) → Reach⁺ (imported_by p) c d → Path⁺ p c d
  unfolding Path⁺ Reach⁺
  reach-path⁺ c d q = (q.0, mem-edge q.1, reach-path q.2)

  label-at : (c : ℕ) → c < chunks p → label_at p c ≡ label (chunks p) (imported_by p) c
  unfolding labels_of labels
  label-at c l = get_d-map-up_to (label (chunks p) (imported_by p)) (chunks p) c missing l

  -- a chunk with a label has a row
  label-in : (c : ℕ) → (label_at p c ≡ missing → ⊥) → c < chunks p
  unfolding labels_of labels
  label-in c k = pick (dec_lt c (chunks p))
    where
      pick : Dec (c < chunks p) → c < chunks p
      pick (yes h) = h
      pick (no h) = absurd (k (get_or-eq_default (labels_of p) missing (omega (arith, length-map (up_to (chunks p)) (label (chunks p) (imported_by p)), length-count_from 0 (chunks p)))))

module _ (p : Project) (fit : ImportsFit p) where
  -- the chunks that c reaches are those that a path of zero or more import rows leads to
  pub reached-paths : (c d : ℕ) → c < chunks p → (elem d (reached_from (chunks p) (imported_by p) c) ≡ true) ↔ Path* p c d
  reached-paths c d l = (
    λ e. reach-path p (reached-reach (chunks p) (imported_by p) (graph-inside fit.graph) c d l e),
    λ q. reach-reached (chunks p) (imported_by p) (graph-inside fit.graph) c d l (path-reach p q),
  )

  -- the computed connection is strong connection
  pub connected-paths : (c d : ℕ) → c < chunks p → (connected (chunks p) (imported_by p) c d ≡ true) ↔ Connected p c d
  unfolding Connected
  connected-paths c d l = (
    λ e. let r = connected-reach (chunks p) (imported_by p) (graph-inside fit.graph) c d l e in (reach-path p r.0, reach-path p r.1),
    λ q. reach-connected (chunks p) (imported_by p) (graph-inside fit.graph) c d l (path-reach p q.0) (path-reach p q.1),
  )

  -- the computed test of a cyclic chunk is 01's
  pub cyclic-paths : (c : ℕ) → c < chunks p → (cyclic (chunks p) (imported_by p) c ≡ true) ↔ Cyclic p c
  unfolding Cyclic
  cyclic-paths c l = (
    λ e. ⊎_elim (λ r. inl (r.0, r.1, (connected-paths c r.0 l).0 r.2)) (λ h. inr (mem-edge p h)) (cyclic-cases (chunks p) (imported_by p) (graph-inside fit.graph) c e),
    λ q. ⊎_elim (λ r. other-cyclic (chunks p) (imported_by p) (graph-inside fit.graph) c r.0 l r.1 ((connected-paths c r.0 l).1 r.2)) (λ e. edge-cyclic (chunks p) (imported_by p) (graph-inside fit.graph) c (edge-mem p e)) q,
  )

  -- a chunk is cyclic exactly if a path of one or more import rows leads from it to itself
  pub cyclic-circle : (c : ℕ) → c < chunks p → Cyclic p c ↔ Path⁺ p c c
  cyclic-circle c l = (
    λ q. reach-path⁺ p c c (cyclic-reach (chunks p) (imported_by p) (graph-inside fit.graph) c l ((cyclic-paths c l).1 q)),
    λ q. (cyclic-paths c l).0 (reach-cyclic (chunks p) (imported_by p) (graph-inside fit.graph) c l (path-reach⁺ p c c q)),
  )

  -- the label of a cyclic chunk is the lowest row of its component
  pub label-lowest : (c : ℕ) → c < chunks p → Cyclic p c → Lowest p c (label_at p c)
  label-lowest c l q =
      let e : label_at p c ≡ lowest (chunks p) (imported_by p) (graph-inside fit.graph) c = label-at p c l ∙ label-cyclic (chunks p) (imported_by p) (graph-inside fit.graph) c ((cyclic-paths c l).1 q) in
      rw e
      (record {
        member = (connected-paths c _ l).0 (lowest-connected (chunks p) (imported_by p) (graph-inside fit.graph) c l);
        least = λ d h. (lowest-least (chunks p) (imported_by p) (graph-inside fit.graph) c d l ((connected-paths c d l).1 h)).1;
      })

  -- the label of any other chunk is the mark
  pub label-mark : (c : ℕ) → c < chunks p → (Cyclic p c → ⊥) → label_at p c ≡ missing
  label-mark c l k =
      label-at p c l ∙ label-none (chunks p) (imported_by p) (graph-inside fit.graph) c (⊎_elim (λ e. absurd (k ((cyclic-paths c l).0 e))) (λ e. e) (both (cyclic (chunks p) (imported_by p) c)))

  limit : chunks p ≤ missing
  limit = let h = fit.few in omega arith

  -- two chunks have the same label below the mark exactly if they are strongly connected and cyclic
  pub same-labels : (c d : ℕ) → c < chunks p → d < chunks p → ((label_at p c ≡ label_at p d) × (label_at p c ≡ missing → ⊥)) ↔ (Connected p c d × Cyclic p c)
  same-labels c d l m = (
    λ e.
        let r = same-label (chunks p) (imported_by p) (graph-inside fit.graph) limit c d l m (sym (label-at p c l) ∙ e.0 ∙ label-at p d m) (λ q. e.1 (label-at p c l ∙ q)) in
        ((connected-paths c d l).0 r.0, (cyclic-paths c l).0 r.1),
    λ q.
        let r = label_same (chunks p) (imported_by p) (graph-inside fit.graph) limit c d l ((connected-paths c d l).1 q.0) ((cyclic-paths c l).1 q.1) in
        (label-at p c l ∙ r.0 ∙ sym (label-at p d m), λ e. r.1 (sym (label-at p c l) ∙ e)),
  )

  -- chunk reach: a path of zero or more import rows to a chunk with a path of one or more import rows to itself
  pub reach-paths : (c : ℕ) → c < chunks p → (reaches_cycle_of p c ≡ true) ↔ ((d : ℕ) × Path* p c d × Path⁺ p d d)
  unfolding reaches_cycle_of
  reach-paths c l = (
    λ e. let r = cycle-reach (chunks p) (imported_by p) (graph-inside fit.graph) c l e in (r.0, reach-path p r.1, reach-path⁺ p r.0 r.0 r.2),
    λ q. reach-cycle (chunks p) (imported_by p) (graph-inside fit.graph) c q.0 l (path-reach p q.1) (path-reach⁺ p q.0 q.0 q.2),
  )

-- more import rows

module _ (p q : Project) (more : MoreImports p q) where
  pub path-grows : {c d : ℕ} → Path* p c d → Path* q c d
  unfolding MoreImports
  path-grows (stay e) = stay e
  path-grows (go {c} {e} h r) = go (more c e h) (path-grows r)

  pub connected-grows : (c d : ℕ) → Connected p c d → Connected q c d
  unfolding Connected
  connected-grows c d r = (path-grows r.0, path-grows r.1)

  pub cyclic-grows : (c : ℕ) → Cyclic p c → Cyclic q c
  unfolding Cyclic MoreImports
  cyclic-grows c r = ⊎_elim (λ h. inl (h.0, h.1, connected-grows c h.0 h.2)) (λ e. inr (more c c e)) r

  module _ (fit : ImportsFit p) (fit' : ImportsFit q) (same : chunks p ≡ chunks q) where
    -- chunks of one cyclic component, by their labels, still are
    pub component-grows : (c d : ℕ) → (eqb (label_at p c) (label_at p d) && not (eqb (label_at p c) missing)) ≡ true → (eqb (label_at q c) (label_at q d) && not (eqb (label_at q c) missing)) ≡ true
    component-grows c d e =
        let b = and_parts (eqb (label_at p c) (label_at p d)) (not (eqb (label_at p c) missing)) e in
        let s : label_at p c ≡ label_at p d = eqb-true (label_at p c) (label_at p d) b.0 in
        let k : label_at p c ≡ missing → ⊥ = eqb-false (label_at p c) missing (not-true (eqb (label_at p c) missing) b.1) in
        let l : c < chunks p = label-in p c k in
        let m : d < chunks p = label-in p d (λ h. k (s ∙ h)) in
        let r = (same-labels p fit c d l m).0 (s, k) in
        let t = (same-labels q fit' c d (rw same at l) (rw same at m)).1 (connected-grows c d r.0, cyclic-grows c r.1) in
        and-join (eqb (label_at q c) (label_at q d)) (not (eqb (label_at q c) missing)) (eq-eqb (label_at q c) (label_at q d) t.0) (ap not (ne_eqb (label_at q c) missing t.1))
