-- The columns that the edges are made of, read back.
-- Assumes nothing.
use mathlib.Core.Path.{◌≡◌, refl, sym, ap, subst, ◌∙◌}
use mathlib.Core.Logic.{⊎_elim}
use mathlib.Core.Bool.{Bool, true, cond, not}
use mathlib.Core.List.{List}
use Prim.Native.Nat.{ℕ, zero, suc, ◌<◌}
use native.Mathlib.Omega.{arith}
use native.Mathlib.Decide.{dec_lt}
use lib.ListN.{length, get_or, get_or-eq_default}
use Rattle.lists.specs.Words.{is_zero, has}
use Rattle.lists.proofs.Laws.{both, has_in, get_d-in, get_d-map-up_to, length-map-up_to}
use Rattle.tables.specs.Project.{Project, missing}
use Rattle.tables.specs.Readings.{modules, chunks, is_import}
use Rattle.tables.specs.Accepted.{Accepted}
use Rattle.tables.specs.Refusal.{row_limit}
use Rattle.strong_connection.specs.Cycles.{label, labels, cyclic}
use Rattle.strong_connection.proofs.Rows.{graph-inside}
use Rattle.strong_connection.proofs.Strong.{lowest-in, label-cyclic, label-none}
use Rattle.chunk_cycles.specs.Cycles.{imported_by, labels_of}
use Rattle.chunk_cycles.proofs.OverTable.{accepted-fit, length-labels}
use Rattle.marks.specs.Steps.{looked}
use Rattle.marks.proofs.Steps.{looked-at, length-looked}
use Rattle.wrap_rules.specs.inner.Passes.{candidate_marks}
use Rattle.import_edges.specs.inner.Spread.{record_targets}
use Rattle.import_edges.proofs.Edging.{target_at}
use Rattle.request_edges.specs.inner.Edges.{choice, chosen}
use Rattle.request_graph.specs.inner.Requests.{readers_of}

-- a chosen place is in both sets

choice-is : (a b m : ℕ) → choice a b m < row_limit → (not (is_zero a) ≡ true) × (not (is_zero b) ≡ true) × (choice a b m ≡ m)
choice-is zero b m l = absurd (omega arith)
choice-is (suc a) zero m l = absurd (omega arith)
choice-is (suc a) (suc b) m l = (refl, refl, refl)

choice-in : (a b m : ℕ) → not (is_zero a) ≡ true → not (is_zero b) ≡ true → choice a b m ≡ m
choice-in zero b m e f = absurd (mathlib.Core.Bool.false≢true e)
choice-in (suc a) zero m e f = absurd (mathlib.Core.Bool.false≢true f)
choice-in (suc a) (suc b) m e f = refl

module _ (first second : List ℕ) where
  chosen_at : (m : ℕ) → m < length first → get_or (chosen first second) m missing ≡ choice (get_or first m 0) (get_or second m 0) m
  unfolding chosen
  chosen_at m l = get_d-map-up_to (λ (m : ℕ). choice (get_or first m 0) (get_or second m 0) m) (length first) m missing l

  chosen-length : length (chosen first second) ≡ length first
  unfolding chosen
  chosen-length = length-map-up_to (λ (m : ℕ). choice (get_or first m 0) (get_or second m 0) m) (length first)

  pub chosen_is : (m : ℕ) → get_or (chosen first second) m missing < row_limit → (has first m ≡ true) × (has second m ≡ true) × (get_or (chosen first second) m missing ≡ m)
  chosen_is m l = go (dec_lt m (length first))
    where
      go : Dec (m < length first) → (has first m ≡ true) × (has second m ≡ true) × (get_or (chosen first second) m missing ≡ m)
      go (yes k) =
          let e = chosen_at m k in
          let q = choice-is (get_or first m 0) (get_or second m 0) m (subst (λ (x : ℕ). x < row_limit) e l) in
          (q.0, q.1, e ∙ q.2)
      go (no k) = let z : get_or (chosen first second) m missing ≡ missing = get_or-eq_default (chosen first second) missing (omega (arith, k, chosen-length)) in absurd (omega (arith, l, z))

  pub is-chosen : (m : ℕ) → has first m ≡ true → has second m ≡ true → get_or (chosen first second) m missing ≡ m
  is-chosen m e f = chosen_at m (has_in first m e) ∙ choice-in (get_or first m 0) (get_or second m 0) m e f

module _ (p : Project) (ok : Accepted p) where
  -- a label that isn't the mark is a row number
  pub label-in : (c : ℕ) → (get_or (labels_of p) c missing ≡ missing → ⊥) → get_or (labels_of p) c missing < row_limit
  unfolding labels_of labels
  label-in c k = go (dec_lt c (chunks p))
    where
      go : Dec (c < chunks p) → get_or (labels_of p) c missing < row_limit
      go (yes l) =
          let e : get_or (labels_of p) c missing ≡ label (chunks p) (imported_by p) c = get_d-map-up_to (label (chunks p) (imported_by p)) (chunks p) c missing l in
          let inside = graph-inside (accepted-fit p ok).graph in
          ⊎_elim
          (λ q. subst (λ (x : ℕ). x < row_limit) (sym (e ∙ label-cyclic (chunks p) (imported_by p) inside c q)) (omega (arith, lowest-in (chunks p) (imported_by p) inside c l, ok.sizes.order)))
          (λ q. absurd (k (e ∙ label-none (chunks p) (imported_by p) inside c q)))
          (both (cyclic (chunks p) (imported_by p) c))
      go (no l) = absurd (k (get_or-eq_default (labels_of p) missing (omega (arith, length-labels p))))

  -- the target of an import record is a module
  pub target-in : (row : ℕ) → row < length p.record_module → get_or (record_targets p) row 0 < row_limit → get_or (record_targets p) row 0 < modules p
  target-in row l k =
      let e = target_at p.record_kind p.record_target row 0 (omega (arith, ok.sizes.record_target)) in
      ⊎_elim
      (λ q.
      let f : get_or (record_targets p) row 0 ≡ get_or p.record_target row 0 = e ∙ ap (λ (b : Bool). cond b (get_or p.record_target row 0) missing) q in
      ⊎_elim (λ h. subst (λ (x : ℕ). x < modules p) (sym f) h) (λ z. absurd (omega (arith, k, f, z))) (ok.values.record_target row (omega (arith, ok.sizes.record_target))))
      (λ q. absurd (omega (arith, k, e ∙ ap (λ (b : Bool). cond b (get_or p.record_target row 0) missing) q)))
      (both (is_import (get_or p.record_kind row 0)))

  -- a reference's reader
  pub record Reader (r m : ℕ) : Type 0 where
    pub candidate : has (candidate_marks p) m ≡ true
    pub reading : has p.reads m ≡ true
    pub statement : get_or p.reference_statement r 0 < length p.statement_module
    pub named : get_or p.statement_module (get_or p.reference_statement r 0) 0 ≡ m

  module _ (r : ℕ) (l : r < length p.reference_statement) where
    abbrev s : ℕ
    s = get_or p.reference_statement r 0

    inside : s < length p.statement_module
    inside = ok.values.reference_statement r l

    at : (d : ℕ) → get_or (readers_of p (candidate_marks p)) r d ≡ get_or (chosen (candidate_marks p) p.reads) (get_or p.statement_module s 0) missing
    at d =
        looked-at missing (chosen (candidate_marks p) p.reads) (looked missing p.statement_module p.reference_statement) r d (omega (arith, l, length-looked missing p.statement_module p.reference_statement))
        ∙ ap (λ (x : ℕ). get_or (chosen (candidate_marks p) p.reads) x missing) (looked-at missing p.statement_module p.reference_statement r 0 l ∙ get_d-in p.statement_module s missing 0 inside)

    pub reader-is : (d : ℕ) → get_or (readers_of p (candidate_marks p)) r d < row_limit → Reader r (get_or (readers_of p (candidate_marks p)) r d)
    reader-is d k =
        let e = at d in
        let q = chosen_is (candidate_marks p) p.reads (get_or p.statement_module s 0) (subst (λ (x : ℕ). x < row_limit) e k) in
        let f : get_or p.statement_module s 0 ≡ get_or (readers_of p (candidate_marks p)) r d = sym (e ∙ q.2) in
        record { candidate = subst (λ (x : ℕ). has (candidate_marks p) x ≡ true) f q.0; reading = subst (λ (x : ℕ). has p.reads x ≡ true) f q.1; statement = inside; named = f }

    pub is-reader : (d m : ℕ) → has (candidate_marks p) m ≡ true → has p.reads m ≡ true → get_or p.statement_module s 0 ≡ m → get_or (readers_of p (candidate_marks p)) r d ≡ m
    is-reader d m c h e = at d ∙ ap (λ (x : ℕ). get_or (chosen (candidate_marks p) p.reads) x missing) e ∙ is-chosen (candidate_marks p) p.reads m c h
