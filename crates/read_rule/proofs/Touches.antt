-- Rule (iv) by marks: a symbol is touched by its owner, its canonical's owner or a link row of either; a reference by its symbol or a depended row.
-- Assumes nothing.
use Rattle.std.specs.Prelude.{◌≡◌, ℕ, ◌<◌, true, not, ◌&&◌, ◌||◌, eqb, ◌⊎◌, List, length, get_or}
use mathlib.Core.Path.{sym, ap, subst, ◌∙◌}
use mathlib.Core.Logic.{inl, inr, ⊎_elim}
use native.Mathlib.Omega.{arith}
use borrow.Author.Tests.{eq-eqb, ne_eqb, eqb-false}
use Rattle.lists.specs.Words.{any, has}
use Rattle.lists.proofs.Laws.{both, not-true, and_parts, and-join, or_parts, or_left, or_right, any-mem, mem-any, get_d-in}
use Rattle.tables.specs.Project.{Project, missing}
use Rattle.tables.specs.Readings.{values_of}
use Rattle.tables.specs.Accepted.{Accepted}
use Rattle.tables.proofs.OwnerRows.{values-row, row-values}
use Rattle.wrap_rules.specs.Rules.{chain_touches, symbol_touches, reference_touches}

module _ (p : Project) (S : List ℕ) where
  -- a symbol's owner is planned, or the owner of a link of its chain

  pub chain-owner : (y : ℕ) → has S (get_or p.owner y missing) ≡ true → chain_touches p S y ≡ true
  chain-owner y e = or_left (has S (get_or p.owner y missing)) _ e

  pub chain_link_lem : (row : ℕ) → row < length p.chain_symbol → has S (get_or p.owner (get_or p.chain_link row 0) missing) ≡ true → chain_touches p S (get_or p.chain_symbol row 0) ≡ true
  chain_link_lem row l e =
      or_right (has S (get_or p.owner (get_or p.chain_symbol row 0) missing)) _
      (mem-any (λ (link : ℕ). has S (get_or p.owner link missing)) (values_of p.chain_symbol p.chain_link (get_or p.chain_symbol row 0)) (row-values p.chain_symbol p.chain_link row l) e)

  pub chain-rows : (y : ℕ) → chain_touches p S y ≡ true
      → (has S (get_or p.owner y missing) ≡ true)
      ⊎ ((row : ℕ) × (row < length p.chain_symbol) × (get_or p.chain_symbol row 0 ≡ y) × (has S (get_or p.owner (get_or p.chain_link row 0) missing) ≡ true))
  chain-rows y e =
      ⊎_elim (λ a. inl a)
      (λ a.
      let r = any-mem (λ (link : ℕ). has S (get_or p.owner link missing)) (values_of p.chain_symbol p.chain_link y) a in
      let v = values-row p.chain_symbol p.chain_link y r.0 r.1 in
      inr (v.0, v.1, v.2, subst (λ (link : ℕ). has S (get_or p.owner link missing) ≡ true) (sym v.3) r.2))
      (or_parts (has S (get_or p.owner y missing)) _ e)

  module _ (ok : Accepted p) where
    -- a reference touches by its symbol, where it has one
    pub reference-symbol : (r : ℕ) → r < length p.reference_statement → (get_or p.reference_symbol r 0 ≡ missing → ⊥) → symbol_touches p S (get_or p.reference_symbol r 0) ≡ true → reference_touches p S r ≡ true
    unfolding reference_touches
    reference-symbol r l n e =
        let q : get_or p.reference_symbol r 0 ≡ get_or p.reference_symbol r missing = get_d-in p.reference_symbol r 0 missing (omega (arith, ok.sizes.reference_symbol)) in
        let t : symbol_touches p S (get_or p.reference_symbol r missing) ≡ true = subst (λ (y : ℕ). symbol_touches p S y ≡ true) q e in
        ⊎_elim
        (λ f. rw f (or_left (not (eqb (get_or p.reference_symbol r missing) missing) && symbol_touches p S (get_or p.reference_symbol r missing)) _ (and-join (not (eqb (get_or p.reference_symbol r missing) missing)) _ (ap not (ne_eqb (get_or p.reference_symbol r missing) missing (λ z. n (q ∙ z)))) t)))
        (λ f. rw f t)
        (both (eqb (get_or p.reference_form r 0) 2))

    -- and by each depended row of it
    pub reference-depended : (d : ℕ) → d < length p.depended_reference → symbol_touches p S (get_or p.depended d 0) ≡ true → reference_touches p S (get_or p.depended_reference d 0) ≡ true
    unfolding reference_touches
    reference-depended d l e =
        let r : ℕ = get_or p.depended_reference d 0 in
        rw (eq-eqb (get_or p.reference_form r 0) 2 (ok.agrees.depended_reference d l))
        (or_right (not (eqb (get_or p.reference_symbol r missing) missing) && symbol_touches p S (get_or p.reference_symbol r missing)) _
        (mem-any (symbol_touches p S) (values_of p.depended_reference p.depended r) (row-values p.depended_reference p.depended d l) e))

    -- and by nothing else
    pub reference-rows : (r : ℕ) → r < length p.reference_statement → reference_touches p S r ≡ true
        → ((get_or p.reference_symbol r 0 ≡ missing → ⊥) × (symbol_touches p S (get_or p.reference_symbol r 0) ≡ true))
        ⊎ ((d : ℕ) × (d < length p.depended_reference) × (get_or p.depended_reference d 0 ≡ r) × (symbol_touches p S (get_or p.depended d 0) ≡ true))
    unfolding reference_touches
    reference-rows r l e =
        ⊎_elim (λ f. member (rw f at e)) (λ f. inl (⊎_elim (λ two. absurd (eqb-false (get_or p.reference_form r 0) 2 f two)) (λ n. n) (ok.agrees.reference_symbol r (omega (arith, ok.sizes.reference_form))), subst (λ (y : ℕ). symbol_touches p S y ≡ true) same (rw f at e))) (both (eqb (get_or p.reference_form r 0) 2))
      where
        same : get_or p.reference_symbol r missing ≡ get_or p.reference_symbol r 0
        same = get_d-in p.reference_symbol r missing 0 (omega (arith, ok.sizes.reference_symbol))

        member : ((not (eqb (get_or p.reference_symbol r missing) missing) && symbol_touches p S (get_or p.reference_symbol r missing)) || any (symbol_touches p S) (values_of p.depended_reference p.depended r)) ≡ true
            → ((get_or p.reference_symbol r 0 ≡ missing → ⊥) × (symbol_touches p S (get_or p.reference_symbol r 0) ≡ true))
            ⊎ ((d : ℕ) × (d < length p.depended_reference) × (get_or p.depended_reference d 0 ≡ r) × (symbol_touches p S (get_or p.depended d 0) ≡ true))
        member q =
            ⊎_elim
            (λ a.
            let b = and_parts (not (eqb (get_or p.reference_symbol r missing) missing)) _ a in
            inl (λ z. eqb-false (get_or p.reference_symbol r missing) missing (not-true (eqb (get_or p.reference_symbol r missing) missing) b.0) (same ∙ z), subst (λ (y : ℕ). symbol_touches p S y ≡ true) same b.1))
            (λ a.
            let x = any-mem (symbol_touches p S) (values_of p.depended_reference p.depended r) a in
            let v = values-row p.depended_reference p.depended r x.0 x.1 in
            inr (v.0, v.1, v.2, subst (λ (y : ℕ). symbol_touches p S y ≡ true) (sym v.3) x.2))
            (or_parts (not (eqb (get_or p.reference_symbol r missing) missing) && symbol_touches p S (get_or p.reference_symbol r missing)) _ q)
