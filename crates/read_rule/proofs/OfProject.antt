-- Rule (iv) at a project: what the pass over its columns asks, and that it adds just what the rule asks for.
-- Assumes nothing.
use Rattle.std.specs.Prelude.{◌≡◌, ℕ, zero, suc, ◌<◌, Bool, true, not, List, length, get_or}
use mathlib.Core.Path.{refl, sym, ap, subst, ◌∙◌}
use mathlib.Core.Logic.{inl, inr, ⊎_elim}
use native.Mathlib.Omega.{arith}
use borrow.Author.Tests.{eq-eqb, eqb-true}
use Rattle.lists.specs.Words.{is_zero, has}
use Rattle.lists.proofs.Laws.{or_parts, or_left, or_right, has_in, get_d-in, mark-in}
use Rattle.tables.specs.Project.{Project, missing}
use Rattle.tables.specs.Readings.{modules, flagged}
use Rattle.tables.specs.Accepted.{Accepted}
use Rattle.eligibility.specs.Eligible.{eligible}
use Rattle.marks.specs.Steps.{Added}
use Rattle.marks.proofs.Steps.{added-cong}
use Rattle.wrap_rules.specs.Rules.{chain_touches, symbol_touches, reference_touches, read_asks}
use Rattle.wrap_rules.specs.Plan.{reached}
use Rattle.wrap_rules.specs.inner.Passes.{candidate_marks}
use Rattle.wrap_rules.proofs.Rows.{read-asks, read-rows}
use Rattle.wrap_rules.proofs.Sets.{candidate-parts, parts-candidate, length-candidates}
use Rattle.read_rule.specs.inner.Reads.{ChainTouch, SymbolTouch, Touching, by_symbol, by_depended, TopLevelRead, Symbols, Reading, ReadPassed}
use Rattle.read_rule.proofs.Touches.{chain-owner, chain_link_lem, chain-rows, reference-symbol, reference-depended, reference-rows}

module _ (p : Project) (ok : Accepted p) where
  pub symbols-fit : Symbols p
  symbols-fit = record {
    few = ok.sizes.owner;
    canonicals = ok.sizes.canonical;
    inside = ok.values.canonical;
    chains = record { links = ok.sizes.chain_link; symbols = ok.values.chain_symbol; linked = ok.values.chain_link };
  }

  pub reading-fit : Reading p (candidate_marks p) (modules p)
  reading-fit = record {
    few = ok.sizes.normal;
    read = ok.sizes.reads;
    modules = ok.values.statement_module;
    statements = ok.values.reference_statement;
    referred = ok.sizes.reference_symbol;
    few_references = ok.sizes.reference_statement;
    depending = record { depends = ok.sizes.depended; referring = λ i l. omega (arith, ok.values.depended_reference i l, ok.sizes.reference_symbol); named = ok.values.depended };
    candidate = length-candidates p;
  }

  pub reads-flag : (m : ℕ) → has p.reads m ≡ true → flagged p.reads m ≡ true
  reads-flag m e = eq-eqb (get_or p.reads m 0) 1 (one (get_or p.reads m 0) (ok.values.reads m (has_in p.reads m e)) e)
    where
      one : (x : ℕ) → x < 2 → not (is_zero x) ≡ true → x ≡ 1
      one zero l h = absurd (mathlib.Core.Bool.false≢true h)
      one (suc x) l h = omega arith

  pub flag-reads : (m : ℕ) → flagged p.reads m ≡ true → has p.reads m ≡ true
  flag-reads m e = mark-in (get_or p.reads m 0) (λ z. omega (arith, eqb-true (get_or p.reads m 0) 1 e))

  module _ (s : List ℕ) where
    -- the rule, what the pass adds, and a reference that touches s

    abbrev asks_of : List ℕ → ℕ → Bool
    asks_of = read_asks (eligible p) (reached p) p

    abbrev Asking : ℕ → Type 0
    Asking = TopLevelRead p.reads p.statement_module p.owner p.canonical p.chain_symbol p.chain_link p.reference_statement p.reference_symbol p.depended_reference p.depended (candidate_marks p) s

    abbrev Touches : ℕ → Type 0
    Touches = Touching p.owner p.canonical p.chain_symbol p.chain_link p.reference_symbol p.depended_reference p.depended s

    chain-there : (y : ℕ) → ChainTouch p.owner p.chain_symbol p.chain_link s y → chain_touches p s y ≡ true
    chain-there y h = ⊎_elim (chain-owner p s y) (λ q. subst (λ (x : ℕ). chain_touches p s x ≡ true) q.2 (chain_link_lem p s q.0 q.1 q.3)) h

    canonical-same : (y : ℕ) → y < length p.owner → get_or p.canonical y missing ≡ get_or p.canonical y 0
    canonical-same y l = get_d-in p.canonical y missing 0 (omega (arith, ok.sizes.canonical))

    symbol-there : (y : ℕ) → y < length p.owner → SymbolTouch p.owner p.canonical p.chain_symbol p.chain_link s y → symbol_touches p s y ≡ true
    unfolding symbol_touches
    symbol-there y l h =
        ⊎_elim (λ q. or_left (chain_touches p s y) _ (chain-there y q))
        (λ q. or_right (chain_touches p s y) _ (subst (λ (x : ℕ). chain_touches p s x ≡ true) (sym (canonical-same y l)) (chain-there (get_or p.canonical y 0) q)))
        h

    symbol-back : (y : ℕ) → y < length p.owner → symbol_touches p s y ≡ true → SymbolTouch p.owner p.canonical p.chain_symbol p.chain_link s y
    unfolding symbol_touches
    symbol-back y l e =
        ⊎_elim (λ q. inl (chain-rows p s y q))
        (λ q. inr (chain-rows p s (get_or p.canonical y 0) (subst (λ (x : ℕ). chain_touches p s x ≡ true) (canonical-same y l) q)))
        (or_parts (chain_touches p s y) _ e)

    touch-there : (i : ℕ) → i < length p.reference_statement → Touches i → reference_touches p s i ≡ true
    touch-there i l (by_symbol k h) = reference-symbol p s ok i l (λ z. omega (arith, k, z, ok.sizes.owner)) (symbol-there (get_or p.reference_symbol i 0) k h)
    touch-there i l (by_depended d j q k h) = subst (λ (x : ℕ). reference_touches p s x ≡ true) q (reference-depended p s ok d j (symbol-there (get_or p.depended d 0) k h))

    touch-back : (i : ℕ) → i < length p.reference_statement → reference_touches p s i ≡ true → Touches i
    touch-back i l e =
        ⊎_elim
        (λ q.
        let k : get_or p.reference_symbol i 0 < length p.owner = ⊎_elim (λ b. b) (λ z. absurd (q.0 z)) (ok.values.reference_symbol i (omega (arith, ok.sizes.reference_symbol))) in
        by_symbol k (symbol-back (get_or p.reference_symbol i 0) k q.1))
        (λ q.
        let k : get_or p.depended q.0 0 < length p.owner = ok.values.depended q.0 (omega (arith, q.1, ok.sizes.depended)) in
        by_depended q.0 q.1 q.2 k (symbol-back (get_or p.depended q.0 0) k q.3))
        (reference-rows p s ok i l e)

    pub read-pass : {t : List ℕ} {r : Bool} → Added Asking s t r → ReadPassed p s t r
    read-pass = added-cong Asking (λ (m : ℕ). asks_of s m ≡ true) back there
      where
        there : (m : ℕ) → Asking m → asks_of s m ≡ true
        there m h =
            let c = candidate-parts p m h.candidate in
            let st = get_or p.reference_statement h.row 0 in
            let l : st < length p.statement_module = ok.values.reference_statement h.row h.there in
            read-asks p (eligible p) (reached p) s m st h.row c.0 c.1 (reads-flag m h.reading) l (get_d-in p.statement_module st 0 missing l ∙ h.named) h.there refl (touch-there h.row h.there h.touches)

        back : (m : ℕ) → m < length s → asks_of s m ≡ true → Asking m
        back m l e =
            let h = read-rows p (eligible p) (reached p) s m e in
            let q = h.3 in
            record {
              candidate = parts-candidate p m h.0 h.1;
              reading = flag-reads m h.2;
              row = q.1;
              there = q.4;
              named = ap (λ (x : ℕ). get_or p.statement_module x missing) q.5 ∙ get_d-in p.statement_module q.0 missing 0 q.2 ∙ q.3;
              touches = touch-back q.1 q.4 q.6;
            }
