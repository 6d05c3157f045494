-- A place that a planned module leads to is there because a rule asks.
-- Assumes nothing.
use mathlib.Core.Path.{◌≡◌, refl, sym, ap, subst, ◌∙◌}
use mathlib.Core.Logic.{◌⊎◌, inl, inr, ⊎_elim}
use mathlib.Core.Bool.{true, not}
use mathlib.Core.List.{List, Memᴰ}
use Prim.Native.Nat.{ℕ, ◌+◌, ◌≤◌, ◌<◌}
use native.Mathlib.Omega.{arith}
use lib.ListN.{length, get_or}
use lib.Dec.{eqb}
use borrow.Author.Tests.{eq-eqb, ne_eqb}
use Rattle.lists.specs.Words.{any, has}
use Rattle.lists.proofs.Laws.{and-join, or_left, or_right, mem-any, has_in, get_d-in}
use Rattle.walk.specs.Reach.{Reach, here, step, Reach⁺}
use Rattle.tables.specs.Project.{Project, missing}
use Rattle.tables.specs.Readings.{modules, values_of}
use Rattle.tables.specs.Accepted.{Accepted}
use Rattle.tables.specs.Refusal.{row_limit}
use Rattle.tables.proofs.OwnerRows.{row-values}
use Rattle.chunk_cycles.specs.Cycles.{labels_of}
use Rattle.sensitivity.specs.Marks.{sensitive, sensitive_marks}
use Rattle.eligibility.specs.Eligible.{eligible, eligible_marks}
use Rattle.marks.specs.Steps.{looked}
use Rattle.marks.proofs.Steps.{looked-at, length-looked}
use Rattle.wrap_rules.specs.Rules.{component_asks, leads, read_asks, chain_touches, symbol_touches, reference_touches}
use Rattle.wrap_rules.specs.Plan.{reached}
use Rattle.wrap_rules.specs.inner.Passes.{candidate_marks}
use Rattle.wrap_rules.proofs.Rows.{component-asks, read-asks, row-import}
use Rattle.wrap_rules.proofs.Sets.{sensitive-has, eligible-has, candidate-parts}
use Rattle.import_edges.specs.inner.Spread.{record_targets}
use Rattle.import_edges.proofs.Edging.{length-targets}
use Rattle.import_edges.proofs.OfProject.{target_row}
use Rattle.read_rule.proofs.Touches.{chain-owner, chain_link_lem, reference-symbol, reference-depended}
use Rattle.read_rule.proofs.OfProject.{reads-flag}
use Rattle.request_edges.specs.inner.Edges.{numbered, chosen, Rows}
use Rattle.request_graph.specs.inner.Requests.{at_request, at_lead, at_dependent, at_label, at_chain, readers_of, RequestEdge}
use Rattle.request_graph.proofs.Edging.{length-numbered, numbered-at}
use Rattle.request_meaning.proofs.Columns.{chosen_is, target-in, Reader, reader-is}
use Rattle.request_meaning.proofs.Leading.{leads-reach, reach_leads}

module _ (p : Project) (ok : Accepted p) (S : List ℕ) (size : length S ≡ modules p) where
  -- rule (ii) or (iv) asks for m
  abbrev pub Asked : ℕ → Type 0
  Asked m = (component_asks (sensitive p) (eligible p) (labels_of p) p S m ≡ true) ⊎ (read_asks (eligible p) (reached p) p S m ≡ true)

  -- a planned module's chunk has the label l
  abbrev Labelled : ℕ → Type 0
  Labelled l = (x : ℕ) × (x < modules p) × (has S x ≡ true) × (get_or (labels_of p) (get_or p.chunk x missing) missing ≡ l)

  -- what it means that a planned module leads to v
  pub record Meaning (v : ℕ) : Type 0 where
    pub inner : at_request ≤ v
    pub requested : (m : ℕ) → m < 4096 → v ≡ m + at_request → Asked m
    pub leading : (t : ℕ) → t < 4096 → v ≡ t + at_lead → leads p S t ≡ true
    pub dependent : (m : ℕ) → m < 4096 → v ≡ m + at_dependent → any (has S) (values_of p.dependency_module p.dependency m) ≡ true
    pub labelled : (l : ℕ) → l < 16384 → v ≡ l + at_label → Labelled l
    pub touched : (y : ℕ) → v ≡ y + at_chain → chain_touches p S y ≡ true

  is-request : (m v : ℕ) → m < 4096 → m + at_request ≡ v → Asked m → Meaning v
  is-request m v l e a = record {
    inner = omega arith;
    requested = λ k b q. subst Asked (let z : m ≡ k = omega arith in z) a;
    leading = λ k b q. absurd (omega arith);
    dependent = λ k b q. absurd (omega arith);
    labelled = λ k b q. absurd (omega arith);
    touched = λ k q. absurd (omega arith);
  }

  is-lead : (t v : ℕ) → t < 4096 → t + at_lead ≡ v → leads p S t ≡ true → Meaning v
  is-lead t v l e a = record {
    inner = omega arith;
    requested = λ k b q. absurd (omega arith);
    leading = λ k b q. subst (λ (x : ℕ). leads p S x ≡ true) (let z : t ≡ k = omega arith in z) a;
    dependent = λ k b q. absurd (omega arith);
    labelled = λ k b q. absurd (omega arith);
    touched = λ k q. absurd (omega arith);
  }

  is-dependent : (m v : ℕ) → m < 4096 → m + at_dependent ≡ v → any (has S) (values_of p.dependency_module p.dependency m) ≡ true → Meaning v
  is-dependent m v l e a = record {
    inner = omega arith;
    requested = λ k b q. absurd (omega arith);
    leading = λ k b q. absurd (omega arith);
    dependent = λ k b q. subst (λ (x : ℕ). any (has S) (values_of p.dependency_module p.dependency x) ≡ true) (let z : m ≡ k = omega arith in z) a;
    labelled = λ k b q. absurd (omega arith);
    touched = λ k q. absurd (omega arith);
  }

  is-label : (l v : ℕ) → l < 16384 → l + at_label ≡ v → Labelled l → Meaning v
  is-label l v b e a = record {
    inner = omega arith;
    requested = λ k c q. absurd (omega arith);
    leading = λ k c q. absurd (omega arith);
    dependent = λ k c q. absurd (omega arith);
    labelled = λ k c q. subst Labelled (let z : l ≡ k = omega arith in z) a;
    touched = λ k q. absurd (omega arith);
  }

  is-chain : (y v : ℕ) → y + at_chain ≡ v → chain_touches p S y ≡ true → Meaning v
  is-chain y v e a = record {
    inner = omega arith;
    requested = λ k b q. absurd (omega arith);
    leading = λ k b q. absurd (omega arith);
    dependent = λ k b q. absurd (omega arith);
    labelled = λ k b q. absurd (omega arith);
    touched = λ k q. subst (λ (x : ℕ). chain_touches p S x ≡ true) (let z : y ≡ k = omega arith in z) a;
  }

  -- a planned module's number lies before all other places
  planned-in : (u : ℕ) → has S u ≡ true → u < 4096
  planned-in u e = omega (arith, has_in S u e, size, ok.sizes.normal)

  abbrev From : ℕ → Type 0
  From u = (has S u ≡ true) ⊎ Meaning u

  -- an edge from a module's own number
  planned : (u : ℕ) → u < 4096 → From u → has S u ≡ true
  planned u l f = ⊎_elim (λ e. e) (λ m. absurd (omega (arith, m.inner))) f

  -- and from another place
  meant : (u : ℕ) → 4096 ≤ u → From u → Meaning u
  meant u l f = ⊎_elim (λ e. absurd (omega (arith, planned-in u e))) (λ m. m) f

  few : modules p ≤ 4096
  few = ok.sizes.normal

  -- (ii)

  own-label : (u v : ℕ) → Rows (numbered (modules p)) 0 (looked missing (labels_of p) p.chunk) at_label u v → From u → Meaning v
  own-label u v e f =
      let row = e.row in
      let l : row < modules p = omega (arith, e.there, length-numbered (modules p)) in
      let c : row < length p.chunk = omega (arith, l, ok.sizes.chunk) in
      let q : row ≡ u = omega (arith, e.source, numbered-at (modules p) row 0 l) in
      let t = looked-at missing (labels_of p) p.chunk row 0 c in
      let at : get_or (looked missing (labels_of p) p.chunk) row 0 ≡ get_or (labels_of p) (get_or p.chunk row missing) missing = t ∙ ap (λ (x : ℕ). get_or (labels_of p) x missing) (get_d-in p.chunk row 0 missing c) in
      is-label (get_or (looked missing (labels_of p) p.chunk) row 0) v e.aimed e.target (row, l, subst (λ (x : ℕ). has S x ≡ true) (sym q) (planned u (omega (arith, q, l, few)) f), sym at)

  member : (u v : ℕ) → Rows (looked missing (labels_of p) p.member_chunk) at_label (looked missing (chosen (sensitive_marks p) (eligible_marks p)) p.member) at_request u v → From u → Meaning v
  member u v e f =
      let row = e.row in
      let c : row < length p.member_chunk = omega (arith, e.there, length-looked missing (labels_of p) p.member_chunk) in
      let b : row < length p.member = omega (arith, c, ok.sizes.member) in
      let m = get_or p.member row 0 in
      let here' = get_or (looked missing (labels_of p) p.member_chunk) row 0 in
      let at : here' ≡ get_or (labels_of p) (get_or p.member_chunk row 0) missing = looked-at missing (labels_of p) p.member_chunk row 0 c in
      let x = (meant u (omega (arith, e.source)) f).labelled here' e.known (sym e.source) in
      let own = get_or (labels_of p) (get_or p.chunk x.0 missing) missing in
      let t = looked-at missing (chosen (sensitive_marks p) (eligible_marks p)) p.member row 0 b in
      let k = chosen_is (sensitive_marks p) (eligible_marks p) m (subst (λ (z : ℕ). z < row_limit) t e.aimed) in
      is-request m v (omega (arith, ok.values.member row b, few)) (ap (λ (z : ℕ). z + at_request) (sym (t ∙ k.2)) ∙ e.target)
      (inl
      (component-asks (sensitive p) (eligible p) (labels_of p) p S row x.0 b x.1 x.2
      (and-join (eqb own (get_or (labels_of p) (get_or p.member_chunk row 0) missing)) (not (eqb own missing)) (eq-eqb own (get_or (labels_of p) (get_or p.member_chunk row 0) missing) (x.3 ∙ at)) (ap not (ne_eqb own missing (λ z. omega (arith, z, x.3, e.known)))))
      (sym (sensitive-has p m) ∙ k.0) (sym (eligible-has p m) ∙ k.1)))

  -- (iii)

  own-lead : (u v : ℕ) → Rows (numbered (modules p)) 0 (numbered (modules p)) at_lead u v → From u → Meaning v
  own-lead u v e f =
      let row = e.row in
      let l : row < modules p = omega (arith, e.there, length-numbered (modules p)) in
      let n = numbered-at (modules p) row 0 l in
      let q : row ≡ u = omega (arith, e.source, n) in
      is-lead row v (omega (arith, l, few)) (ap (λ (z : ℕ). z + at_lead) (sym n) ∙ e.target)
      (reach_leads p ok S row l row (subst (λ (x : ℕ). has S x ≡ true) (sym q) (planned u (omega (arith, q, l, few)) f)) (here refl))

  record-lead : (u v : ℕ) → Rows (record_targets p) at_lead p.record_module at_lead u v → From u → Meaning v
  record-lead u v e f =
      let row = e.row in
      let l : row < length p.record_module = omega (arith, e.there, length-targets p.record_kind p.record_target, ok.sizes.record_target) in
      let t = get_or (record_targets p) row 0 in
      let m = get_or p.record_module row 0 in
      let tn : t < modules p = target-in p ok row l e.known in
      let mn : m < modules p = ok.values.record_module row l in
      let k = target_row p ok row l tn in
      let r = leads-reach p ok S t tn ((meant u (omega (arith, e.source)) f).leading t (omega (arith, tn, few)) (sym e.source)) in
      is-lead m v (omega (arith, mn, few)) e.target
      (reach_leads p ok S m mn r.0 r.1 (step (subst (λ (x : ℕ). Memᴰ x (Rattle.wrap_rules.specs.Rules.imports_of p m)) k.1 (row-import p row l k.0 k.2)) r.2))

  depends : (u v : ℕ) → Rows p.dependency 0 p.dependency_module at_dependent u v → From u → Meaning v
  depends u v e f =
      let row = e.row in
      let l : row < length p.dependency_module = omega (arith, e.there, ok.sizes.dependency) in
      let d : get_or p.dependency row 0 < modules p = ok.values.dependency row e.there in
      let q : get_or p.dependency row 0 ≡ u = omega (arith, e.source) in
      is-dependent (get_or p.dependency_module row 0) v (omega (arith, ok.values.dependency_module row l, few)) e.target
      (mem-any (has S) (values_of p.dependency_module p.dependency (get_or p.dependency_module row 0)) (row-values p.dependency_module p.dependency row l)
      (subst (λ (x : ℕ). has S x ≡ true) (sym q) (planned u (omega (arith, q, d, few)) f)))

  -- (iv)

  own-chain : (u v : ℕ) → Rows p.owner 0 (numbered (length p.owner)) at_chain u v → From u → Meaning v
  own-chain u v e f =
      let row = e.row in
      let l = e.there in
      let q : get_or p.owner row 0 ≡ u = omega (arith, e.source) in
      is-chain row v (ap (λ (z : ℕ). z + at_chain) (sym (numbered-at (length p.owner) row 0 l)) ∙ e.target)
      (chain-owner p S row (subst (λ (x : ℕ). has S x ≡ true) (sym (get_d-in p.owner row missing 0 l ∙ q)) (planned u (omega (arith, q, ok.values.owner row l, few)) f)))

  link-chain : (u v : ℕ) → Rows (looked missing p.owner p.chain_link) 0 p.chain_symbol at_chain u v → From u → Meaning v
  link-chain u v e f =
      let row = e.row in
      let c : row < length p.chain_link = omega (arith, e.there, length-looked missing p.owner p.chain_link) in
      let l : row < length p.chain_symbol = omega (arith, c, ok.sizes.chain_link) in
      let y = get_or p.chain_link row 0 in
      let b : y < length p.owner = ok.values.chain_link row c in
      let q : get_or p.owner y missing ≡ u = sym (looked-at missing p.owner p.chain_link row 0 c) ∙ (let z : get_or (looked missing p.owner p.chain_link) row 0 ≡ u = omega (arith, e.source) in z) in
      let n : get_or p.owner y missing < modules p = subst (λ (x : ℕ). x < modules p) (get_d-in p.owner y 0 missing b) (ok.values.owner y b) in
      is-chain (get_or p.chain_symbol row 0) v e.target (chain_link_lem p S row l (subst (λ (x : ℕ). has S x ≡ true) (sym q) (planned u (omega (arith, q, n, few)) f)))

  -- a reference that touches is read by its reader
  read : (r m v : ℕ) → r < length p.reference_statement → Reader p ok r m → m + at_request ≡ v → reference_touches p S r ≡ true → Meaning v
  read r m v l h e t =
      let c = candidate-parts p m h.candidate in
      let n : m < modules p = subst (λ (x : ℕ). x < modules p) h.named (ok.values.statement_module (get_or p.reference_statement r 0) h.statement) in
      is-request m v (omega (arith, n, few)) e (inr (read-asks p (eligible p) (reached p) S m (get_or p.reference_statement r 0) r c.0 c.1 (reads-flag p ok m h.reading) h.statement h.named l refl t))

  abbrev readers : List ℕ
  readers = readers_of p (candidate_marks p)

  symbol-own : (y : ℕ) → chain_touches p S y ≡ true → symbol_touches p S y ≡ true
  unfolding symbol_touches
  symbol-own y e = or_left (chain_touches p S y) _ e

  symbol-canonical : (y : ℕ) → chain_touches p S (get_or p.canonical y missing) ≡ true → symbol_touches p S y ≡ true
  unfolding symbol_touches
  symbol-canonical y e = or_right (chain_touches p S y) _ e

  module _ (v : ℕ) where
    by-symbol : (row : ℕ) → row < length p.reference_symbol → get_or readers row 0 < row_limit → get_or readers row 0 + at_request ≡ v → (get_or p.reference_symbol row 0 ≡ missing → ⊥) → symbol_touches p S (get_or p.reference_symbol row 0) ≡ true → Meaning v
    by-symbol row l k e n t =
        let b : row < length p.reference_statement = omega (arith, l, ok.sizes.reference_symbol) in
        read row (get_or readers row 0) v b (reader-is p ok row b 0 k) e (reference-symbol p S ok row b n t)

    by-depended : (row : ℕ) → row < length p.depended → get_or (looked missing readers p.depended_reference) row 0 < row_limit → get_or (looked missing readers p.depended_reference) row 0 + at_request ≡ v → symbol_touches p S (get_or p.depended row 0) ≡ true → Meaning v
    by-depended row l k e t =
        let b : row < length p.depended_reference = omega (arith, l, ok.sizes.depended) in
        let r = get_or p.depended_reference row 0 in
        let c : r < length p.reference_statement = ok.values.depended_reference row b in
        let at = looked-at missing readers p.depended_reference row 0 b in
        read r (get_or readers r missing) v c (reader-is p ok r c missing (subst (λ (x : ℕ). x < row_limit) at k)) (ap (λ (x : ℕ). x + at_request) (sym at) ∙ e) (reference-depended p S ok row b t)

  symbol-read : (u v : ℕ) → Rows p.reference_symbol at_chain readers at_request u v → From u → Meaning v
  symbol-read u v e f =
      by-symbol v e.row e.there e.aimed e.target (λ z. omega (arith, z, e.known))
      (symbol-own (get_or p.reference_symbol e.row 0) ((meant u (omega (arith, e.source)) f).touched (get_or p.reference_symbol e.row 0) (sym e.source)))

  canonical-read : (u v : ℕ) → Rows (looked missing p.canonical p.reference_symbol) at_chain readers at_request u v → From u → Meaning v
  canonical-read u v e f =
      let l : e.row < length p.reference_symbol = omega (arith, e.there, length-looked missing p.canonical p.reference_symbol) in
      let y = get_or p.reference_symbol e.row 0 in
      let at = looked-at missing p.canonical p.reference_symbol e.row 0 l in
      by-symbol v e.row l e.aimed e.target (λ z. omega (arith, e.known, at ∙ ap (λ (x : ℕ). get_or p.canonical x missing) z ∙ past p.canonical (omega (arith, ok.sizes.canonical, ok.sizes.owner))))
      (symbol-canonical y (subst (λ (x : ℕ). chain_touches p S x ≡ true) at ((meant u (omega (arith, e.source)) f).touched (get_or (looked missing p.canonical p.reference_symbol) e.row 0) (sym e.source))))
    where
      past : (xs : List ℕ) → length xs ≤ missing → get_or xs missing missing ≡ missing
      past xs l = lib.ListN.get_or-eq_default xs missing l

  depended-read : (u v : ℕ) → Rows p.depended at_chain (looked missing readers p.depended_reference) at_request u v → From u → Meaning v
  depended-read u v e f =
      by-depended v e.row e.there e.aimed e.target
      (symbol-own (get_or p.depended e.row 0) ((meant u (omega (arith, e.source)) f).touched (get_or p.depended e.row 0) (sym e.source)))

  depended-canonical : (u v : ℕ) → Rows (looked missing p.canonical p.depended) at_chain (looked missing readers p.depended_reference) at_request u v → From u → Meaning v
  depended-canonical u v e f =
      let l : e.row < length p.depended = omega (arith, e.there, length-looked missing p.canonical p.depended) in
      let y = get_or p.depended e.row 0 in
      let at = looked-at missing p.canonical p.depended e.row 0 l in
      by-depended v e.row l e.aimed e.target
      (symbol-canonical y (subst (λ (x : ℕ). chain_touches p S x ≡ true) at ((meant u (omega (arith, e.source)) f).touched (get_or (looked missing p.canonical p.depended) e.row 0) (sym e.source))))

  -- each edge
  along : (u v : ℕ) → RequestEdge p u v → From u → Meaning v
  unfolding RequestEdge
  along u v (inl (inl e)) f = own-label u v e f
  along u v (inl (inr e)) f = member u v e f
  along u v (inr (inl (inl e))) f = own-lead u v e f
  along u v (inr (inl (inr (inl e)))) f = record-lead u v e f
  along u v (inr (inl (inr (inr e)))) f = depends u v e f
  along u v (inr (inr (inl (inl e)))) f = own-chain u v e f
  along u v (inr (inr (inl (inr e)))) f = link-chain u v e f
  along u v (inr (inr (inr (inl e)))) f = symbol-read u v e f
  along u v (inr (inr (inr (inr (inl e))))) f = canonical-read u v e f
  along u v (inr (inr (inr (inr (inr (inl e)))))) f = depended-read u v e f
  along u v (inr (inr (inr (inr (inr (inr e)))))) f = depended-canonical u v e f

  -- each path
  module _ (succ : ℕ → List ℕ) (back : (u v : ℕ) → Memᴰ v (succ u) → RequestEdge p u v) where
    on : {u v : ℕ} → Meaning u → Reach succ u v → Meaning v
    on m (here q) = subst Meaning (sym q) m
    on {u} m (step {y = y} h r) = on (along u y (back u y h) (inr m)) r

    pub path-meaning : (x v : ℕ) → has S x ≡ true → Reach⁺ succ x v → Meaning v
    unfolding Reach⁺
    path-meaning x v e r = on (along x r.0 (back x r.0 r.1) (inl e)) r.2
