-- A chunk is marked and labelled, or none is.
use Rattle.std.proofs.Common.{◌≡◌, ℕ, ◌<◌, Bool, not, List, length, slice_index, slice_index_or, sym, ap, ◌∙◌, arith, rules}
use Rattle.std.specs.Prelude.{◌↔◌, IsTrue}
use mathlib.Core.Bool.{true≢false}
use borrow.Author.Tests.{eq-eqb, ne_eqb}
use Rattle.lists.specs.Words.{any, has, up_to}
use Rattle.lists.proofs.Laws.{and-join, and_parts, any-mem, get_d-in, iff-eq, mark-in, mark-out, mem-any, mem-up_to, up_to-mem}
use Rattle.tables.specs.Project.{missing}
use Rattle.component_labels.specs.inner.Labelling.{labelled}
use Rattle.chunk_cycles.specs.inner.OverTable.{labelled_at}
use Rattle.chunk_cycles.proofs.inner.meets_labelled.Goals as goal

module _ (marks labels : List ℕ) where
  abbrev Both : ℕ → Type 0
  Both d = (d < length marks) × (slice_index marks d ≡ 0 → ⊥) × (slice_index labels d ≡ missing → ⊥)

  met : (b : Bool) → length labels ≡ length marks → (IsTrue b ↔ ((d : ℕ) × Both d)) → b ≡ any (labelled_at marks labels) (up_to (length marks))
  met b e h =
      iff-eq b (any (labelled_at marks labels) (up_to (length marks)))
      (λ t.
      let i = h.0 t in
      let q = i.1 in
      mem-any (labelled_at marks labels) (up_to (length marks)) (up_to-mem q.0)
      (and-join (has marks i.0) _ (mark-in (slice_index marks i.0) q.1) (ap labelled (get_d-in labels i.0 missing 0 (omega (arith, e, q.0))) ∙ ap not (ne_eqb (slice_index labels i.0) missing q.2))))
      (λ t.
      let i = any-mem (labelled_at marks labels) (up_to (length marks)) t in
      let inside : i.0 < length marks = mem-up_to i.1 in
      let p = and_parts (has marks i.0) (labelled (slice_index_or labels i.0 missing)) i.2 in
      h.1 (i.0, (inside, λ z. true≢false (sym p.0 ∙ mark-out (slice_index marks i.0) z), λ z. true≢false (sym p.1 ∙ ap labelled (get_d-in labels i.0 missing 0 (omega (arith, e))) ∙ ap not (eq-eqb (slice_index labels i.0) missing z)))))

pub returns : goal.returns
returns c =
    let h : IsTrue c.any.result ↔ ((d : ℕ) × Both c.args.marks.now c.args.labels.now d) = search rules in
    met _ _ c.any.result c.requires h
