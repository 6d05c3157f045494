-- Rule (ii) by marks: the labels that are hit, the chunks that have them, and their members.
-- Assumes nothing.
use Rattle.std.specs.Prelude.{◌≡◌, ℕ, ◌<◌, true, List, length, get_or}
use mathlib.Core.Path.{sym, ap, subst, ◌∙◌}
use mathlib.Core.Logic.{⊎_elim}
use native.Mathlib.Omega.{arith}
use Rattle.lists.specs.Words.{has}
use Rattle.lists.proofs.Laws.{has_in, get_d-in}
use Rattle.tables.specs.Project.{missing}
use Rattle.tables.specs.Accepted.{Below}
use Rattle.marks.specs.Steps.{looked, Owners}
use Rattle.marks.proofs.Steps.{looked-at, looked-has, owners-row, row-owners}
use Rattle.component_rule.specs.inner.Members.{Together}

module _ (chunk member_chunk member labels S hits₀ hits : List ℕ) (size : length hits₀ ≡ length labels) (h : Owners (looked missing labels chunk) S (length chunk) hits₀ hits) where
  -- the label that is shared is hit
  pub together-hit : (m : ℕ) (t : Together chunk member_chunk member labels S m) → has hits (get_or labels (get_or chunk t.planned 0) missing) ≡ true
  together-hit m t =
      let of : get_or (looked missing labels chunk) t.planned 0 ≡ get_or labels (get_or chunk t.planned 0) missing = looked-at missing labels chunk t.planned 0 t.inside in
      subst (λ (i : ℕ). has hits i ≡ true) of
      (h.new t.planned t.inside t.holds (subst (λ (i : ℕ). i < length hits₀) (sym of) (omega (arith, t.labelled, size))))

  module _ (chunks marks₀ marks : List ℕ) (no_hits : (m : ℕ) → has hits₀ m ≡ true → ⊥) (no_marks : (m : ℕ) → has marks₀ m ≡ true → ⊥) (rows : length member_chunk ≡ length member)
      (inside : Below (length labels) member_chunk) (c : chunks ≡ looked 0 hits labels) (o : Owners member (looked 0 chunks member_chunk) (length member) marks₀ marks) where
    -- a row's chunk is marked where its label is hit
    labelled-hit : (row : ℕ) → row < length member → has chunks (get_or member_chunk row 0) ≡ has hits (get_or labels (get_or member_chunk row 0) missing)
    labelled-hit row l =
        let k : get_or member_chunk row 0 < length labels = inside row (omega (arith, rows)) in
        ap (λ (s : List ℕ). has s (get_or member_chunk row 0)) c ∙ looked-has hits labels (get_or member_chunk row 0) k ∙ ap (has hits) (get_d-in labels (get_or member_chunk row 0) 0 missing k)

    pub members-together : (m : ℕ) → has marks m ≡ true → Together chunk member_chunk member labels S m
    members-together m e =
        let r = owners-row member member_chunk chunks marks₀ marks no_marks rows o m e in
        let label = get_or labels (get_or member_chunk r.row 0) missing in
        let hit : has hits label ≡ true = sym (labelled-hit r.row r.there) ∙ r.holds in
        ⊎_elim (λ k. absurd (no_hits label k))
        (λ q.
        let x = q.0 in
        let of : get_or (looked missing labels chunk) x 0 ≡ get_or labels (get_or chunk x 0) missing = looked-at missing labels chunk x 0 q.1 in
        record {
          row = r.row;
          there = r.there;
          named = r.named;
          planned = x;
          inside = q.1;
          holds = q.2;
          same = sym q.3 ∙ of;
          labelled = subst (λ (i : ℕ). i < length labels) (sym q.3 ∙ of) (omega (arith, has_in hits label hit, h.len, size));
        })
        (h.only label hit)

    pub together-members : (m : ℕ) → m < length marks₀ → Together chunk member_chunk member labels S m → has marks m ≡ true
    together-members m l t =
        row-owners member member_chunk chunks marks₀ marks no_marks rows o m l
        (record { row = t.row; there = t.there; named = t.named; holds = labelled-hit t.row t.there ∙ subst (λ (i : ℕ). has hits i ≡ true) (sym t.same) (together-hit m t) })
