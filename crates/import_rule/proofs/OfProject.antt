-- Rule (iii) at a project: its candidates fit, the pass over its columns adds just what the rule asks for, and so does the one over the edges of its records.
-- Assumes nothing.
use Rattle.std.specs.Prelude.{◌≡◌, ℕ, ◌<◌, ◌≤◌, Bool, true, List, length, get_or, take, replicate}
use mathlib.Core.Path.{sym, subst, ◌∙◌}
use mathlib.Core.List.{Memᴰ}
use native.Mathlib.Omega.{arith}
use Rattle.lists.specs.Words.{has}
use Rattle.lists.proofs.Laws.{has_in}
use Rattle.walk.specs.Close.{Within}
use Rattle.tables.specs.Project.{Project, missing}
use Rattle.tables.specs.Readings.{modules}
use Rattle.tables.specs.Accepted.{Accepted}
use Rattle.strong_connection.specs.inner.Graph.{EdgeColumns, Graph}
use Rattle.eligibility.specs.Eligible.{eligible}
use Rattle.marks.specs.Steps.{Added}
use Rattle.marks.proofs.Parts.{part_none, part_length}
use Rattle.marks.proofs.Steps.{added-cong}
use Rattle.wrap_rules.specs.Rules.{imports_of, leads, import_asks}
use Rattle.wrap_rules.specs.Plan.{reached}
use Rattle.wrap_rules.specs.inner.Passes.{Passed, Marked, candidate_marks}
use Rattle.wrap_rules.proofs.Rows.{import-row, row-import, import-asks, import-rows}
use Rattle.wrap_rules.proofs.Sets.{candidate-parts, parts-candidate, length-candidates}
use Rattle.import_edges.specs.inner.Spread.{Along, Under, Spreads, Spreadable, record_targets}
use Rattle.import_edges.proofs.Edging.{RowsIn, rows_back, edges-rows, rows-edges, along-rows, under-rows, spreads-rows, row-rows, length-targets}
use Rattle.import_edges.proofs.OfProject.{target_row, row_target}
use Rattle.rule_sets.specs.inner.Sets.{Edged}
use Rattle.import_rule.specs.inner.Imports.{Importer, Importing, Leading, ImportPassed}
use Rattle.import_rule.proofs.Leads.{Backward, leads-in, in-leads}

-- what leads to a plan leads to a larger one
pub under_more : (from to s t L : List ℕ) → length t ≡ length s → Within s t → Under from to s L → Under from to t L
unfolding Within Under
under_more from to s t L n w u M k v = u M (k ∙ n) (λ m e. v m (w m e))

-- and after a pass of any rule
pub leading-more : {p : Project} {rule : List ℕ → ℕ → Bool} {L s t : List ℕ} {r : Bool} → Leading p L s → Passed rule s t r → Leading p L t
leading-more {p} {rule} {L} {s} {t} l h = record { size = l.size; along = l.along; under = under_more (record_targets p) p.record_module s t L h.len h.grows l.under }

-- no marks lead to any plan
pub blank-leading : (p : Project) (k n : ℕ) (plan : List ℕ) → n ≤ k → n ≡ modules p → Leading p (take n (replicate k 0)) plan
unfolding Within Along Under
blank-leading p k n plan fits e = record {
  size = part_length k n fits ∙ e;
  along = λ row l h. absurd (part_none k n (get_or (record_targets p) row 0) h);
  under = λ M i w a m h. absurd (part_none k n m h);
}

module _ (p : Project) (ok : Accepted p) where
  pub importing-fit : {importers targets : List ℕ} → Graph targets importers (modules p) → Importing p targets (candidate_marks p) (modules p)
  importing-fit g = record {
    imported = g.froms;
    dependencies = ok.sizes.dependency;
    dependents = ok.values.dependency_module;
    depended = λ i l. ok.values.dependency i l;
    candidate = length-candidates p;
  }

  -- closed along the records from target to owner, and closed backward, are the same
  along-backward : (L : List ℕ) → length L ≡ modules p → Along (record_targets p) p.record_module L → Backward p L
  unfolding Along Backward
  along-backward L n a m y l h e =
      let r = import-row p m h in
      let q : get_or (record_targets p) r.0 0 ≡ y = row_target p ok r.0 r.1 r.3 ∙ r.4 in
      subst (λ (x : ℕ). has L x ≡ true) r.2
      (a r.0 (omega (arith, r.1, length-targets p.record_kind p.record_target, ok.sizes.record_target)) (subst (λ (x : ℕ). has L x ≡ true) (sym q) e) (subst (λ (x : ℕ). x < length L) (sym r.2) (omega (arith, n))))

  backward-along : (L : List ℕ) → length L ≡ modules p → Backward p L → Along (record_targets p) p.record_module L
  unfolding Along Backward
  backward-along L n b row l e k =
      let i : row < length p.record_module = omega (arith, l, length-targets p.record_kind p.record_target, ok.sizes.record_target) in
      let q = target_row p ok row i (omega (arith, has_in L (get_or (record_targets p) row 0) e, n)) in
      b (get_or p.record_module row 0) (get_or p.record_target row 0) (omega (arith, k, n)) (row-import p row i q.0 q.2) (subst (λ (x : ℕ). has L x ≡ true) (sym q.1) e)

  module _ (s L : List ℕ) (size : length s ≡ modules p) (spreads : Spreads (record_targets p) p.record_module s L) where
    -- the rule, and what the pass adds

    abbrev asks_of : List ℕ → ℕ → Bool
    asks_of = import_asks (eligible p) (reached p) p

    abbrev Asking : ℕ → Type 0
    Asking = Importer p.record_module (record_targets p) p.dependency_module p.dependency (candidate_marks p) s L

    led : (y : ℕ) → has L y ≡ true → leads p s y ≡ true
    unfolding Under
    led = in-leads p s size L (λ M n w b. spreads.under M (n ∙ sym size) w (backward-along M n b))

    lead : (y : ℕ) → leads p s y ≡ true → has L y ≡ true
    lead = leads-in p s L spreads.holds (along-backward L (spreads.len ∙ size) spreads.along)

    pub import-pass : {t : List ℕ} {r : Bool} → Added Asking s t r → Added (λ (m : ℕ). asks_of s m ≡ true) s t r
    import-pass = added-cong Asking (λ (m : ℕ). asks_of s m ≡ true) back there
      where
        there : (m : ℕ) → Asking m → asks_of s m ≡ true
        there m h =
            let c = candidate-parts p m h.candidate in
            let d = h.depends in
            let q = h.leading in
            let y = get_or (record_targets p) q.row 0 in
            let k = target_row p ok q.row q.there (omega (arith, has_in L y q.holds, spreads.len, size)) in
            import-asks p (eligible p) (reached p) s m d.row y c.0 c.1 d.there d.named d.holds
            (subst (λ (x : ℕ). Memᴰ x (imports_of p m)) k.1 (subst (λ (x : ℕ). Memᴰ (get_or p.record_target q.row 0) (imports_of p x)) q.named (row-import p q.row q.there k.0 k.2)))
            (led y q.holds)

        back : (m : ℕ) → m < length s → asks_of s m ≡ true → Asking m
        back m l e =
            let h = import-rows p (eligible p) (reached p) s m e in
            let d = h.2 in
            let q = import-row p m h.3.1 in
            record {
              candidate = parts-candidate p m h.0 h.1;
              depends = record { row = d.0; there = d.1; named = d.2; holds = d.3 };
              leading = record { row = q.0; there = q.1; named = q.2; holds = subst (λ (x : ℕ). has L x ≡ true) (sym (row_target p ok q.0 q.1 q.3 ∙ q.4)) (lead h.3.0 h.3.2) };
            }

  few : modules p ≤ missing
  few = omega (arith, ok.sizes.normal)

  record-lengths : length (record_targets p) ≡ length p.record_module
  record-lengths = length-targets p.record_kind p.record_target ∙ ok.sizes.record_target

  -- from target to importer, the edges are the records
  module _ {e : EdgeColumns} (g : Edged p e) where
    abbrev importers : List ℕ
    importers = e.to

    abbrev targets : List ℕ
    targets = e.from

    there : RowsIn importers targets p.record_module (record_targets p) (modules p)
    there = edges-rows p.record_module (record_targets p) importers targets (modules p) few g.edges

    back : RowsIn p.record_module (record_targets p) importers targets (modules p)
    back = rows-edges p.record_module (record_targets p) importers targets (modules p) few g.edges

    edges-back : RowsIn targets importers (record_targets p) p.record_module (modules p)
    edges-back = rows_back importers targets p.record_module (record_targets p) (modules p) (sym g.graph.lengths) record-lengths there

    records-back : RowsIn (record_targets p) p.record_module targets importers (modules p)
    records-back = rows_back p.record_module (record_targets p) importers targets (modules p) record-lengths (sym g.graph.lengths) back

    pub leads-ready : (s L : List ℕ) → Marked p s → Leading p L s → Spreadable e s L
    leads-ready s L m l = record {
      few = omega (arith, ok.sizes.normal, m.size);
      size = m.size ∙ sym g.places;
      len = l.size ∙ sym m.size;
      along = along-rows targets importers (record_targets p) p.record_module L (modules p) l.size edges-back l.along;
      under = under-rows targets importers (record_targets p) p.record_module s L (modules p) m.size records-back l.under;
    }

    -- the pass over the edges is one over the records
    pub imports-passed : (s L t : List ℕ) (r : Bool) → Marked p s → Spreads targets importers s L → Added (Importer importers targets p.dependency_module p.dependency (candidate_marks p) s L) s t r → ImportPassed p s L t r
    imports-passed s L t r m w h =
        let z : Spreads (record_targets p) p.record_module s L = spreads-rows (record_targets p) p.record_module targets importers s L (modules p) m.size records-back edges-back w in
        record {
          spreads = z;
          added = import-pass s L m.size z
              (added-cong (Importer importers targets p.dependency_module p.dependency (candidate_marks p) s L) (Importer p.record_module (record_targets p) p.dependency_module p.dependency (candidate_marks p) s L)
              (λ i l q. record { candidate = q.candidate; depends = q.depends; leading = row-rows p.record_module (record_targets p) importers targets L (modules p) (w.len ∙ m.size) back i (omega (arith, m.size)) q.leading })
              (λ i q. record { candidate = q.candidate; depends = q.depends; leading = row-rows importers targets p.record_module (record_targets p) L (modules p) (w.len ∙ m.size) there i (candidate-in i q.candidate) q.leading })
              h);
        }
      where
        candidate-in : (i : ℕ) → has (candidate_marks p) i ≡ true → i < modules p
        candidate-in i e = omega (arith, has_in (candidate_marks p) i e, length-candidates p)
