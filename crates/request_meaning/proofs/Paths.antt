-- What a rule asks for, a planned module leads to.
-- Assumes nothing.
use mathlib.Core.Path.{◌≡◌, refl, sym, ap, subst, ◌∙◌}
use mathlib.Core.Logic.{◌⊎◌, inl, inr, ⊎_elim}
use mathlib.Core.Bool.{true, not}
use mathlib.Core.List.{List, Memᴰ}
use Prim.Native.Nat.{ℕ, ◌+◌, ◌≤◌, ◌<◌}
use native.Mathlib.Omega.{arith}
use lib.ListN.{length, get_or}
use lib.Dec.{eqb}
use borrow.Author.Tests.{eqb-true, eqb-false}
use Rattle.lists.specs.Words.{any, has}
use Rattle.lists.proofs.Laws.{not-true, and_parts, or_parts, any-mem, has_in, get_d-in}
use Rattle.walk.specs.Reach.{Reach, here, step, Reach⁺}
use Rattle.walk.proofs.Orders.{reach-next}
use Rattle.tables.specs.Project.{Project, missing}
use Rattle.tables.specs.Readings.{modules, values_of}
use Rattle.tables.specs.Accepted.{Accepted}
use Rattle.tables.specs.Refusal.{row_limit}
use Rattle.tables.proofs.OwnerRows.{values-row}
use Rattle.chunk_cycles.specs.Cycles.{labels_of}
use Rattle.sensitivity.specs.Marks.{sensitive, sensitive_marks}
use Rattle.eligibility.specs.Eligible.{eligible, eligible_marks}
use Rattle.marks.specs.Steps.{looked}
use Rattle.marks.proofs.Steps.{looked-at, length-looked}
use Rattle.wrap_rules.specs.Rules.{component_asks, imports_of, leads, read_asks, chain_touches, symbol_touches}
use Rattle.wrap_rules.specs.Plan.{reached}
use Rattle.wrap_rules.specs.inner.Passes.{candidate_marks}
use Rattle.wrap_rules.proofs.Rows.{component-rows, read-rows, import-row}
use Rattle.wrap_rules.proofs.Sets.{sensitive-has, eligible-has, parts-candidate}
use Rattle.import_edges.specs.inner.Spread.{record_targets}
use Rattle.import_edges.proofs.Edging.{length-targets}
use Rattle.import_edges.proofs.OfProject.{row_target}
use Rattle.read_rule.proofs.Touches.{chain-rows, reference-rows}
use Rattle.read_rule.proofs.OfProject.{flag-reads}
use Rattle.request_edges.specs.inner.Edges.{numbered, chosen, Rows}
use Rattle.request_graph.specs.inner.Requests.{at_request, at_lead, at_dependent, at_label, at_chain, readers_of, RequestEdge}
use Rattle.request_graph.proofs.Edging.{length-numbered, numbered-at}
use Rattle.request_meaning.proofs.Columns.{is-chosen, label-in, is-reader}
use Rattle.request_meaning.proofs.Leading.{import-in, leads-reach}

-- each kind of edge
module _ (p : Project) {u v : ℕ} where
  edge-label : Rows (numbered (modules p)) 0 (looked missing (labels_of p) p.chunk) at_label u v → RequestEdge p u v
  unfolding RequestEdge
  edge-label e = inl (inl e)

  edge-member : Rows (looked missing (labels_of p) p.member_chunk) at_label (looked missing (chosen (sensitive_marks p) (eligible_marks p)) p.member) at_request u v → RequestEdge p u v
  unfolding RequestEdge
  edge-member e = inl (inr e)

  edge_lead : Rows (numbered (modules p)) 0 (numbered (modules p)) at_lead u v → RequestEdge p u v
  unfolding RequestEdge
  edge_lead e = inr (inl (inl e))

  edge-record : Rows (record_targets p) at_lead p.record_module at_lead u v → RequestEdge p u v
  unfolding RequestEdge
  edge-record e = inr (inl (inr (inl e)))

  edge-dependent : Rows p.dependency 0 p.dependency_module at_dependent u v → RequestEdge p u v
  unfolding RequestEdge
  edge-dependent e = inr (inl (inr (inr e)))

  edge-chain : Rows p.owner 0 (numbered (length p.owner)) at_chain u v → RequestEdge p u v
  unfolding RequestEdge
  edge-chain e = inr (inr (inl (inl e)))

  edge-link : Rows (looked missing p.owner p.chain_link) 0 p.chain_symbol at_chain u v → RequestEdge p u v
  unfolding RequestEdge
  edge-link e = inr (inr (inl (inr e)))

  edge-symbol : Rows p.reference_symbol at_chain (readers_of p (candidate_marks p)) at_request u v → RequestEdge p u v
  unfolding RequestEdge
  edge-symbol e = inr (inr (inr (inl e)))

  edge-canonical : Rows (looked missing p.canonical p.reference_symbol) at_chain (readers_of p (candidate_marks p)) at_request u v → RequestEdge p u v
  unfolding RequestEdge
  edge-canonical e = inr (inr (inr (inr (inl e))))

  edge-depended : Rows p.depended at_chain (looked missing (readers_of p (candidate_marks p)) p.depended_reference) at_request u v → RequestEdge p u v
  unfolding RequestEdge
  edge-depended e = inr (inr (inr (inr (inr (inl e)))))

  edge-depended-canonical : Rows (looked missing p.canonical p.depended) at_chain (looked missing (readers_of p (candidate_marks p)) p.depended_reference) at_request u v → RequestEdge p u v
  unfolding RequestEdge
  edge-depended-canonical e = inr (inr (inr (inr (inr (inr e)))))

module _ (p : Project) (ok : Accepted p) (succ : ℕ → List ℕ) (there : (u v : ℕ) → RequestEdge p u v → Memᴰ v (succ u)) (S : List ℕ) (size : length S ≡ modules p) where
  -- a planned module leads to v
  abbrev pub Led : ℕ → Type 0
  Led v = (x : ℕ) × (has S x ≡ true) × Reach⁺ succ x v

  few : modules p ≤ 4096
  few = ok.sizes.normal

  planned-in : (x : ℕ) → has S x ≡ true → x < modules p
  planned-in x e = omega (arith, has_in S x e, size)

  first : (x v : ℕ) → has S x ≡ true → RequestEdge p x v → Led v
  unfolding Reach⁺
  first x v e h = (x, e, (v, there x v h, here refl))

  next : (u v : ℕ) → Led u → RequestEdge p u v → Led v
  unfolding Reach⁺
  next u v l h = (l.0, l.1, (l.2.0, l.2.1, reach-next succ l.2.2 (there u v h)))

  -- (ii)
  pub component-led : (m : ℕ) → component_asks (sensitive p) (eligible p) (labels_of p) p S m ≡ true → Led (m + at_request)
  component-led m e =
      let h = component-rows (sensitive p) (eligible p) (labels_of p) p S m e in
      let row = h.2.0 in
      let x = h.2.1 in
      let c : x < length p.chunk = omega (arith, h.2.4, ok.sizes.chunk) in
      let r : row < length p.member_chunk = omega (arith, h.2.2, ok.sizes.member) in
      let own = get_or (labels_of p) (get_or p.chunk x missing) missing in
      let other = get_or (labels_of p) (get_or p.member_chunk row 0) missing in
      let b = and_parts (eqb own other) (not (eqb own missing)) h.2.6 in
      let same : own ≡ other = eqb-true own other b.0 in
      let small : own < row_limit = label-in p ok (get_or p.chunk x missing) (eqb-false own missing (not-true (eqb own missing) b.1)) in
      let at : get_or (looked missing (labels_of p) p.chunk) x 0 ≡ own = looked-at missing (labels_of p) p.chunk x 0 c ∙ ap (λ (z : ℕ). get_or (labels_of p) z missing) (get_d-in p.chunk x 0 missing c) in
      let at' : get_or (looked missing (labels_of p) p.member_chunk) row 0 ≡ own = looked-at missing (labels_of p) p.member_chunk row 0 r ∙ sym same in
      let asks : get_or (looked missing (chosen (sensitive_marks p) (eligible_marks p)) p.member) row 0 ≡ m =
      looked-at missing (chosen (sensitive_marks p) (eligible_marks p)) p.member row 0 h.2.2 ∙ ap (λ (z : ℕ). get_or (chosen (sensitive_marks p) (eligible_marks p)) z missing) h.2.3 ∙ is-chosen (sensitive_marks p) (eligible_marks p) m (sensitive-has p m ∙ h.0) (eligible-has p m ∙ h.1) in
      let inside : m < modules p = subst (λ (z : ℕ). z < modules p) h.2.3 (ok.values.member row h.2.2) in
      next (own + at_label) (m + at_request) (first x (own + at_label) h.2.5 (to-label x own h.2.4 at small)) (to-member row own m r at' small asks (omega (arith, inside, few)))
    where
      to-label : (x own : ℕ) → x < modules p → get_or (looked missing (labels_of p) p.chunk) x 0 ≡ own → own < row_limit → RequestEdge p x (own + at_label)
      to-label x own l at small = own-label
        where
          n : get_or (numbered (modules p)) x 0 ≡ x
          n = numbered-at (modules p) x 0 l

          row : Rows (numbered (modules p)) 0 (looked missing (labels_of p) p.chunk) at_label x (own + at_label)
          row = record { row = x; there = omega (arith, l, length-numbered (modules p)); known = omega (arith, n, l, few); aimed = subst (λ (z : ℕ). z < row_limit) (sym at) small; source = omega (arith, n); target = ap (λ (z : ℕ). z + at_label) at }

          own-label : RequestEdge p x (own + at_label)
          own-label = edge-label p row

      to-member : (row own m : ℕ) → row < length p.member_chunk → get_or (looked missing (labels_of p) p.member_chunk) row 0 ≡ own → own < row_limit
          → get_or (looked missing (chosen (sensitive_marks p) (eligible_marks p)) p.member) row 0 ≡ m → m < row_limit → RequestEdge p (own + at_label) (m + at_request)
      to-member row own m l at small asks k =
          edge-member p (record { row = row; there = omega (arith, l, length-looked missing (labels_of p) p.member_chunk); known = subst (λ (z : ℕ). z < row_limit) (sym at) small; aimed = subst (λ (z : ℕ). z < row_limit) (sym asks) k; source = ap (λ (z : ℕ). z + at_label) at; target = ap (λ (z : ℕ). z + at_request) asks })

  -- (iii)

  pub dependent-led : (m : ℕ) → any (has S) (values_of p.dependency_module p.dependency m) ≡ true → Led (m + at_dependent)
  dependent-led m e =
      let d = any-mem (has S) (values_of p.dependency_module p.dependency m) e in
      let v = values-row p.dependency_module p.dependency m d.0 d.1 in
      let l : v.0 < length p.dependency = omega (arith, v.1, ok.sizes.dependency) in
      first d.0 (m + at_dependent) d.2
      (edge-dependent p
      (record {
        row = v.0;
        there = l;
        known = omega (arith, ok.values.dependency v.0 l, few);
        aimed = omega (arith, ok.values.dependency_module v.0 v.1, few);
        source = omega (arith, v.3);
        target = ap (λ (z : ℕ). z + at_dependent) v.2;
      }))

  -- the module itself, and against each record
  lead-own : (x : ℕ) → has S x ≡ true → Led (x + at_lead)
  lead-own x e =
      let l = planned-in x e in
      let n = numbered-at (modules p) x 0 l in
      first x (x + at_lead) e
      (edge_lead p
      (record { row = x; there = omega (arith, l, length-numbered (modules p)); known = omega (arith, n, l, few); aimed = omega (arith, n, l, few); source = omega (arith, n); target = ap (λ (z : ℕ). z + at_lead) n }))

  lead-on : (m y : ℕ) → Memᴰ y (imports_of p m) → Led (y + at_lead) → Led (m + at_lead)
  lead-on m y h l =
      let r = import-row p m h in
      let t = row_target p ok r.0 r.1 r.3 ∙ r.4 in
      let inside = import-in p ok m y h in
      next (y + at_lead) (m + at_lead) l
      (edge-record p
      (record {
        row = r.0;
        there = omega (arith, r.1, length-targets p.record_kind p.record_target, ok.sizes.record_target);
        known = omega (arith, t, inside, few);
        aimed = omega (arith, ok.values.record_module r.0 r.1, few);
        source = ap (λ (z : ℕ). z + at_lead) t;
        target = ap (λ (z : ℕ). z + at_lead) r.2;
      }))

  lead-path : {t x : ℕ} → Reach (imports_of p) t x → has S x ≡ true → Led (t + at_lead)
  lead-path {t} (here q) e = subst (λ (z : ℕ). Led (z + at_lead)) q (lead-own _ e)
  lead-path {t} (step {y = y} h r) e = lead-on t y h (lead-path r e)

  pub lead-led : (t : ℕ) → t < modules p → leads p S t ≡ true → Led (t + at_lead)
  lead-led t l e = let r = leads-reach p ok S t l e in lead-path r.2 r.1

  -- (iv)

  chain-led : (y : ℕ) → y < length p.owner → chain_touches p S y ≡ true → Led (y + at_chain)
  chain-led y l e =
      ⊎_elim
      (λ q.
      let n = numbered-at (length p.owner) y 0 l in
      let o : get_or p.owner y missing ≡ get_or p.owner y 0 = get_d-in p.owner y missing 0 l in
      first (get_or p.owner y missing) (y + at_chain) q
      (edge-chain p
      (record { row = y; there = l; known = omega (arith, ok.values.owner y l, few); aimed = omega (arith, n, l, ok.sizes.owner); source = omega (arith, o); target = ap (λ (z : ℕ). z + at_chain) n })))
      (λ q.
      let c : q.0 < length p.chain_link = omega (arith, q.1, ok.sizes.chain_link) in
      let link = get_or p.chain_link q.0 0 in
      let b = ok.values.chain_link q.0 c in
      let o = looked-at missing p.owner p.chain_link q.0 0 c in
      let w : get_or p.owner link missing < modules p = planned-in (get_or p.owner link missing) q.3 in
      first (get_or p.owner link missing) (y + at_chain) q.3
      (edge-link p
      (record {
        row = q.0;
        there = omega (arith, c, length-looked missing p.owner p.chain_link);
        known = omega (arith, o, w, few);
        aimed = omega (arith, ok.values.chain_symbol q.0 q.1, ok.sizes.owner);
        source = omega (arith, o);
        target = ap (λ (z : ℕ). z + at_chain) q.2;
      })))
      (chain-rows p S y e)

  abbrev readers : List ℕ
  readers = readers_of p (candidate_marks p)

  -- a symbol that touches, by its own chain or its canonical's
  symbol-chains : (y : ℕ) → symbol_touches p S y ≡ true → (chain_touches p S y ≡ true) ⊎ (chain_touches p S (get_or p.canonical y missing) ≡ true)
  unfolding symbol_touches
  symbol-chains y e = or_parts (chain_touches p S y) (chain_touches p S (get_or p.canonical y missing)) e

  canonical-in : (y : ℕ) → y < length p.owner → get_or p.canonical y missing < length p.owner
  canonical-in y l = let c : y < length p.canonical = omega (arith, l, ok.sizes.canonical) in subst (λ (z : ℕ). z < length p.owner) (get_d-in p.canonical y 0 missing c) (ok.values.canonical y c)

  symbol-led : (r m : ℕ) → r < length p.reference_symbol → get_or readers r 0 ≡ m → m < row_limit → get_or p.reference_symbol r 0 < length p.owner → symbol_touches p S (get_or p.reference_symbol r 0) ≡ true → Led (m + at_request)
  symbol-led r m l h k s t =
      let y = get_or p.reference_symbol r 0 in
      let at = looked-at missing p.canonical p.reference_symbol r 0 l in
      let c = canonical-in y s in
      ⊎_elim
      (λ q.
      next (y + at_chain) (m + at_request) (chain-led y s q)
      (edge-symbol p (record { row = r; there = l; known = omega (arith, s, ok.sizes.owner); aimed = subst (λ (z : ℕ). z < row_limit) (sym h) k; source = refl; target = ap (λ (z : ℕ). z + at_request) h })))
      (λ q.
      next (get_or p.canonical y missing + at_chain) (m + at_request) (chain-led (get_or p.canonical y missing) c q)
      (edge-canonical p (record { row = r; there = omega (arith, l, length-looked missing p.canonical p.reference_symbol); known = omega (arith, at, c, ok.sizes.owner); aimed = subst (λ (z : ℕ). z < row_limit) (sym h) k; source = ap (λ (z : ℕ). z + at_chain) at; target = ap (λ (z : ℕ). z + at_request) h })))
      (symbol-chains y t)

  depended-led : (d m : ℕ) → d < length p.depended → get_or (looked missing readers p.depended_reference) d 0 ≡ m → m < row_limit → symbol_touches p S (get_or p.depended d 0) ≡ true → Led (m + at_request)
  depended-led d m l h k t =
      let y = get_or p.depended d 0 in
      let s = ok.values.depended d l in
      let at = looked-at missing p.canonical p.depended d 0 l in
      let c = canonical-in y s in
      ⊎_elim
      (λ q.
      next (y + at_chain) (m + at_request) (chain-led y s q)
      (edge-depended p (record { row = d; there = l; known = omega (arith, s, ok.sizes.owner); aimed = subst (λ (z : ℕ). z < row_limit) (sym h) k; source = refl; target = ap (λ (z : ℕ). z + at_request) h })))
      (λ q.
      next (get_or p.canonical y missing + at_chain) (m + at_request) (chain-led (get_or p.canonical y missing) c q)
      (edge-depended-canonical p (record { row = d; there = omega (arith, l, length-looked missing p.canonical p.depended); known = omega (arith, at, c, ok.sizes.owner); aimed = subst (λ (z : ℕ). z < row_limit) (sym h) k; source = ap (λ (z : ℕ). z + at_chain) at; target = ap (λ (z : ℕ). z + at_request) h })))
      (symbol-chains y t)

  pub read-led : (m : ℕ) → read_asks (eligible p) (reached p) p S m ≡ true → Led (m + at_request)
  read-led m e =
      let h = read-rows p (eligible p) (reached p) S m e in
      let q = h.3 in
      let r = q.1 in
      let c = parts-candidate p m h.0 h.1 in
      let f = flag-reads p ok m h.2 in
      let owner : get_or p.statement_module (get_or p.reference_statement r 0) 0 ≡ m = ap (λ (x : ℕ). get_or p.statement_module x 0) q.5 ∙ q.3 in
      let inside : m < modules p = subst (λ (x : ℕ). x < modules p) q.3 (ok.values.statement_module q.0 q.2) in
      let k : m < row_limit = omega (arith, inside, few) in
      ⊎_elim
      (λ a.
      let l : r < length p.reference_symbol = omega (arith, q.4, ok.sizes.reference_symbol) in
      let s : get_or p.reference_symbol r 0 < length p.owner = ⊎_elim (λ b. b) (λ z. absurd (a.0 z)) (ok.values.reference_symbol r l) in
      symbol-led r m l (is-reader p ok r q.4 0 m c f owner) k s a.1)
      (λ a.
      let l : a.0 < length p.depended = omega (arith, a.1, ok.sizes.depended) in
      depended-led a.0 m l (looked-at missing readers p.depended_reference a.0 0 a.1 ∙ ap (λ (x : ℕ). get_or readers x missing) a.2 ∙ is-reader p ok r q.4 missing m c f owner) k a.3)
      (reference-rows p S ok r q.4 q.6)
