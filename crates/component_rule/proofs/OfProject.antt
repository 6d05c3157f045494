-- Rule (ii) at a project: its sets fit, and the pass over its columns adds just what the rule asks for.
-- Assumes nothing.
use Rattle.std.specs.Prelude.{◌≡◌, ℕ, ◌<◌, Bool, true, not, eqb, List, length, get_or}
use mathlib.Core.Path.{sym, ap, subst, ◌∙◌}
use mathlib.Core.Logic.{⊎_elim}
use native.Mathlib.Omega.{arith}
use native.Mathlib.Decide.{dec_lt}
use lib.ListN.{get_or-eq_default}
use borrow.Author.Tests.{eq-eqb, ne_eqb, eqb-true, eqb-false}
use Rattle.lists.specs.Words.{has}
use Rattle.lists.proofs.Laws.{both, not-true, and_parts, and-join, length-marks_of, get_d-in, get_d-map-up_to}
use Rattle.tables.specs.Project.{Project, missing}
use Rattle.tables.specs.Readings.{modules, chunks}
use Rattle.tables.specs.Accepted.{Accepted}
use Rattle.strong_connection.specs.Cycles.{label, labels, cyclic}
use Rattle.chunk_cycles.specs.Cycles.{imported_by, labels_of}
use Rattle.strong_connection.proofs.Rows.{graph-inside}
use Rattle.strong_connection.proofs.Strong.{lowest-in, label-cyclic, label-none}
use Rattle.chunk_cycles.proofs.OverTable.{accepted-fit, length-labels}
use Rattle.sensitivity.specs.Marks.{sensitive, sensitive_marks}
use Rattle.sensitivity.proofs.Marks.{length-grounds}
use Rattle.eligibility.specs.Eligible.{eligible, eligible_marks}
use Rattle.marks.specs.Steps.{Added}
use Rattle.marks.proofs.Steps.{added-cong}
use Rattle.wrap_rules.specs.Rules.{component_asks}
use Rattle.wrap_rules.proofs.Rows.{component-asks, component-rows}
use Rattle.wrap_rules.proofs.Sets.{sensitive-has, eligible-has}
use Rattle.component_rule.specs.inner.Members.{Together, Members, ComponentPassed}

module _ (p : Project) (ok : Accepted p) where
  pub members-fit : Members p (labels_of p) (sensitive_marks p) (eligible_marks p) (modules p)
  members-fit = record {
    few = ok.sizes.normal;
    chunks = ok.sizes.chunk;
    rows = sym ok.sizes.member;
    inside = λ i l. omega (arith, ok.values.member_chunk i l, length-labels p);
    members = ok.values.member;
    few_labels = omega (arith, length-labels p, ok.sizes.order);
    sensitives = length-grounds p;
    eligibles = length-marks_of (eligible p) (modules p);
  }

  -- a label that is not the mark is a chunk row
  label-below : (c : ℕ) → (get_or (labels_of p) c missing ≡ missing → ⊥) → get_or (labels_of p) c missing < length (labels_of p)
  unfolding labels_of labels
  label-below c k = go (dec_lt c (chunks p))
    where
      go : Dec (c < chunks p) → get_or (labels_of p) c missing < length (labels_of p)
      go (yes l) =
          let e : get_or (labels_of p) c missing ≡ label (chunks p) (imported_by p) c = get_d-map-up_to (label (chunks p) (imported_by p)) (chunks p) c missing l in
          let inside = graph-inside (accepted-fit p ok).graph in
          ⊎_elim
          (λ q. subst (λ (x : ℕ). x < length (labels_of p)) (sym (e ∙ label-cyclic (chunks p) (imported_by p) inside c q)) (omega (arith, lowest-in (chunks p) (imported_by p) inside c l, length-labels p)))
          (λ q. absurd (k (e ∙ label-none (chunks p) (imported_by p) inside c q)))
          (both (cyclic (chunks p) (imported_by p) c))
      go (no l) = absurd (k (get_or-eq_default (labels_of p) missing (omega (arith, length-labels p))))

  -- the rule
  abbrev asks_of : List ℕ → ℕ → Bool
  asks_of = component_asks (sensitive p) (eligible p) (labels_of p) p

  -- what the pass adds
  abbrev Joining : List ℕ → ℕ → Type 0
  Joining s m = Together p.chunk p.member_chunk p.member (labels_of p) s m × (has (sensitive_marks p) m ≡ true) × (has (eligible_marks p) m ≡ true)

  module _ (s : List ℕ) where
    pub component-pass : {t : List ℕ} {r : Bool} → Added (Joining s) s t r → ComponentPassed p s t r
    component-pass = added-cong (Joining s) (λ (m : ℕ). asks_of s m ≡ true) back there
      where
        there : (m : ℕ) → Joining s m → asks_of s m ≡ true
        there m (h, q, g) =
            let at : get_or p.chunk h.planned 0 ≡ get_or p.chunk h.planned missing = get_d-in p.chunk h.planned 0 missing h.inside in
            let mine : get_or (labels_of p) (get_or p.chunk h.planned 0) missing ≡ get_or (labels_of p) (get_or p.chunk h.planned missing) missing = ap (λ (x : ℕ). get_or (labels_of p) x missing) at in
            let here : ℕ = get_or (labels_of p) (get_or p.chunk h.planned missing) missing in
            let label' : here ≡ missing → ⊥ = λ z. omega (arith, h.labelled, length-labels p, ok.sizes.order, mine ∙ z) in
            subst (λ (x : ℕ). asks_of s x ≡ true) h.named
            (component-asks (sensitive p) (eligible p) (labels_of p) p s h.row h.planned h.there (omega (arith, h.inside, ok.sizes.chunk)) h.holds
            (and-join (eqb here (get_or (labels_of p) (get_or p.member_chunk h.row 0) missing)) (not (eqb here missing)) (eq-eqb here (get_or (labels_of p) (get_or p.member_chunk h.row 0) missing) (sym (h.same ∙ mine))) (ap not (ne_eqb here missing label')))
            (subst (λ (x : ℕ). sensitive p x ≡ true) (sym h.named) (sym (sensitive-has p m) ∙ q))
            (subst (λ (x : ℕ). eligible p x ≡ true) (sym h.named) (sym (eligible-has p m) ∙ g)))

        back : (m : ℕ) → m < length s → asks_of s m ≡ true → Joining s m
        back m l e =
            let h = component-rows (sensitive p) (eligible p) (labels_of p) p s m e in
            let row = h.2.0 in
            let x = h.2.1 in
            let inside : x < length p.chunk = omega (arith, h.2.4, ok.sizes.chunk) in
            let mine : get_or (labels_of p) (get_or p.chunk x missing) missing ≡ get_or (labels_of p) (get_or p.chunk x 0) missing = ap (λ (c : ℕ). get_or (labels_of p) c missing) (get_d-in p.chunk x missing 0 inside) in
            let b = and_parts (eqb (get_or (labels_of p) (get_or p.chunk x missing) missing) (get_or (labels_of p) (get_or p.member_chunk row 0) missing)) _ h.2.6 in
            let k : get_or (labels_of p) (get_or p.chunk x missing) missing ≡ missing → ⊥ = eqb-false (get_or (labels_of p) (get_or p.chunk x missing) missing) missing (not-true (eqb (get_or (labels_of p) (get_or p.chunk x missing) missing) missing) b.1) in (
              record {
                row = row;
                there = h.2.2;
                named = h.2.3;
                planned = x;
                inside = inside;
                holds = h.2.5;
                same = sym (eqb-true (get_or (labels_of p) (get_or p.chunk x missing) missing) (get_or (labels_of p) (get_or p.member_chunk row 0) missing) b.0) ∙ mine;
                labelled = label-below (get_or p.chunk x 0) (λ z. k (mine ∙ z));
              },
              sensitive-has p m ∙ h.0,
              eligible-has p m ∙ h.1,
            )
