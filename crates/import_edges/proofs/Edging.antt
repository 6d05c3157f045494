-- The kind 0 records as edges: what holds after each row, and that sets are closed along the edges as they are along the records.
-- Assumes nothing.
use Rattle.std.specs.Prelude.{◌≡◌, ℕ, zero, suc, ◌+◌, ◌<◌, ◌≤◌, Bool, true, false, cond, eqb, List, [], ◌∷◌, length, get_or, take, set}
use mathlib.Core.Path.{refl, sym, ap, subst, ◌∙◌}
use mathlib.Core.Logic.{⊎_elim}
use native.Mathlib.Omega.{arith}
use native.Mathlib.Decide.{ℕ_discrete}
use lib.Seq.{get_or-set_same, get_or-set_other}
use borrow.Author.Tests.{eqb-true, eqb-false, eq-eqb, ne_eqb}
use Rattle.lists.specs.Words.{has}
use Rattle.lists.proofs.Laws.{both, has_in, get_d-map-up_to, length-map-up_to}
use Rattle.walk.specs.Close.{Within}
use Rattle.tables.specs.Project.{missing}
use Rattle.tables.specs.Readings.{is_import, resolved, any_target}
use Rattle.tables.specs.declared.Target.TheVariants.{Missing, External, Normal}
use Rattle.tables.specs.Refusal.{module_limit}
use Rattle.strong_connection.specs.inner.Graph.{EdgeColumns}
use Rattle.import_edges.specs.inner.Spread.{Along, Under, Spreads, Spreadable, EdgesBelow, Edges, import_targets}
use Rattle.marks.specs.Steps.{Row}
use Rattle.tables.proofs.Targets.{any-resolved}

-- the target of a row, by what it resolves to
module _ (normal target : List ℕ) (row : ℕ) where
  pub target_none : any_target (resolved normal target row) ≡ [] → get_or target row 0 ≡ missing
  target_none e =
      ⊎_elim (λ q. eqb-true (get_or target row 0) missing q)
      (λ q. let z : ◌≡◌ {A = ℕ} 1 0 = ap length (rw q at (sym (any-resolved normal target row) ∙ e)) in absurd (omega arith))
      (both (eqb (get_or target row 0) missing))

  pub target-there : (t : ℕ) → any_target (resolved normal target row) ≡ t ∷ [] → (t ≡ get_or target row 0) × (t ≡ missing → ⊥)
  target-there t e =
      ⊎_elim (λ q. let z : ◌≡◌ {A = ℕ} 0 1 = ap length (rw q at (sym (any-resolved normal target row) ∙ e)) in absurd (omega arith))
      (λ q. let h : t ≡ get_or target row 0 = same (rw q at (sym (any-resolved normal target row) ∙ e)) in (h, λ z. eqb-false (get_or target row 0) missing q (sym h ∙ z)))
      (both (eqb (get_or target row 0) missing))
    where
      same : get_or target row 0 ∷ [] ≡ t ∷ [] → t ≡ get_or target row 0
      same q = cc

-- writing the edges

module _ (record_module record_target : List ℕ) where
  pub edges-start : (importers targets : List ℕ) → EdgesBelow record_module record_target 0 importers targets 0
  edges-start importers targets = record { few = omega arith; row = λ i l. absurd (omega arith); edge = λ row l. absurd (omega arith) }

  module _ (row : ℕ) (importers targets : List ℕ) (count : ℕ) (g : EdgesBelow record_module record_target row importers targets count) where
    -- the first of the two columns says where an edge is
    abbrev Edge : List ℕ → List ℕ → ℕ → ℕ → Type 0
    Edge I T c r = (i : ℕ) × (i < c) × (get_or I i 0 ≡ get_or record_module r 0) × (get_or T i 0 ≡ get_or record_target r 0)

    pub edges-pass : get_or record_target row 0 ≡ missing → EdgesBelow record_module record_target (row + 1) importers targets count
    edges-pass e = record {
      few = omega (arith, g.few);
      row = λ i l. let r = g.row i l in (r.0, omega (arith, r.1), r.2, r.3, r.4);
      edge = λ r l n. go r n (ℕ_discrete r row) l;
    }
      where
        go : (r : ℕ) → (get_or record_target r 0 ≡ missing → ⊥) → Dec (r ≡ row) → r < row + 1 → Edge importers targets count r
        go r n (yes q) l = absurd (n (ap (λ (x : ℕ). get_or record_target x 0) q ∙ e))
        go r n (no q) l = g.edge r (omega arith) n

    pub edges-put : (target : ℕ) → target ≡ get_or record_target row 0 → (target ≡ missing → ⊥) → count < length importers → count < length targets
        → EdgesBelow record_module record_target (row + 1) (set importers count (get_or record_module row 0)) (set targets count target) (count + 1)
    edges-put target e n a b = record { few = omega (arith, g.few); row = λ i l. back i l (ℕ_discrete i count); edge = λ r l k. go r k (ℕ_discrete r row) l }
      where
        I : List ℕ
        I = set importers count (get_or record_module row 0)

        T : List ℕ
        T = set targets count target

        back : (i : ℕ) → i < count + 1 → Dec (i ≡ count) → (r : ℕ) × (r < row + 1) × (get_or record_module r 0 ≡ get_or I i 0) × (get_or record_target r 0 ≡ get_or T i 0) × (get_or record_target r 0 ≡ missing → ⊥)
        back i l (yes q) = (
          row,
          omega arith,
          sym (ap (λ (x : ℕ). get_or I x 0) q ∙ get_or-set_same importers count (get_or record_module row 0) 0 a),
          sym (ap (λ (x : ℕ). get_or T x 0) q ∙ get_or-set_same targets count target 0 b ∙ e),
          λ z. n (e ∙ z),
        )
        back i l (no q) =
            let r = g.row i (omega arith) in
            (r.0, omega (arith, r.1), r.2 ∙ sym (get_or-set_other importers count i (get_or record_module row 0) 0 q), r.3 ∙ sym (get_or-set_other targets count i target 0 q), r.4)

        go : (r : ℕ) → (get_or record_target r 0 ≡ missing → ⊥) → Dec (r ≡ row) → r < row + 1 → Edge I T (count + 1) r
        go r k (yes q) l = (
          count,
          omega arith,
          get_or-set_same importers count (get_or record_module row 0) 0 a ∙ ap (λ (x : ℕ). get_or record_module x 0) (sym q),
          get_or-set_same targets count target 0 b ∙ e ∙ ap (λ (x : ℕ). get_or record_target x 0) (sym q),
        )
        go r k (no q) l =
            let i = g.edge r (omega arith) k in
            let d : i.0 ≡ count → ⊥ = λ z. omega (arith, i.1) in
            (i.0, omega (arith, i.1), get_or-set_other importers count i.0 (get_or record_module row 0) 0 d ∙ i.2, get_or-set_other targets count i.0 target 0 d ∙ i.3)

  -- the written parts have the same edges
  pub edges-part : {importers targets : List ℕ} {count : ℕ} → Edges record_module record_target importers targets count → Edges record_module record_target (take count importers) (take count targets) count
  edges-part {importers} {targets} {count} g = record {
    few = g.few;
    row = λ i l. let r = g.row i l in (r.0, r.1, r.2 ∙ sym (get_d_take importers count i l), r.3 ∙ sym (get_d_take targets count i l), r.4);
    edge = λ r l n. let i = g.edge r l n in (i.0, i.1, get_d_take importers count i.0 i.1 ∙ i.2, get_d_take targets count i.0 i.1 ∙ i.3);
  }
    where
      get_d_take : (xs : List ℕ) (n i : ℕ) → i < n → get_or (take n xs) i 0 ≡ get_or xs i 0
      get_d_take xs zero i l = absurd (omega arith)
      get_d_take [] (suc n) i l = refl
      get_d_take (x ∷ xs) (suc n) zero l = refl
      get_d_take (x ∷ xs) (suc n) (suc i) l = get_d_take xs n i (omega arith)

-- the rows of two columns that lie below n are rows of two others
abbrev pub RowsIn : List ℕ → List ℕ → List ℕ → List ℕ → ℕ → Type 0
RowsIn from to from' to' n =
    (row : ℕ) → row < length from → get_or from row 0 < n → get_or to row 0 < n → (i : ℕ) × (i < length from') × (get_or from' i 0 ≡ get_or from row 0) × (get_or to' i 0 ≡ get_or to row 0)

pub rows_back : (from to from' to' : List ℕ) (n : ℕ) → length to ≡ length from → length to' ≡ length from' → RowsIn from to from' to' n → RowsIn to from to' from' n
rows_back from to from' to' n e e' h row l a b = let i = h row (omega arith) b a in (i.0, omega (arith, i.1), i.3, i.2)

-- each edge is a record, and each record that lies below n an edge
module _ (record_module record_target importers targets : List ℕ) (n : ℕ) (few : n ≤ missing) (g : Edges record_module record_target importers targets (length importers)) where
  pub edges-rows : RowsIn importers targets record_module record_target n
  edges-rows i l a b = let r = g.row i l in (r.0, r.1, r.2, r.3)

  pub rows-edges : RowsIn record_module record_target importers targets n
  rows-edges row l a b = g.edge row l (λ z. omega (arith, b, z))

pub along-rows : (from to from' to' M : List ℕ) (n : ℕ) → length M ≡ n → RowsIn from to from' to' n → Along from' to' M → Along from to M
unfolding Along
along-rows from to from' to' M n e h a row l q k =
    let i = h row l (omega (arith, e, has_in M (get_or from row 0) q)) (omega (arith, e)) in
    subst (λ (x : ℕ). has M x ≡ true) i.3 (a i.0 i.1 (subst (λ (x : ℕ). has M x ≡ true) (sym i.2) q) (subst (λ (x : ℕ). x < length M) (sym i.3) k))

pub under-rows : (from to from' to' S L : List ℕ) (n : ℕ) → length S ≡ n → RowsIn from' to' from to n → Under from' to' S L → Under from to S L
unfolding Under
under-rows from to from' to' S L n e h u M k w a = u M k w (along-rows from' to' from to M n (k ∙ e) h a)

pub spreads-rows : (from to from' to' s t : List ℕ) (n : ℕ) → length s ≡ n → RowsIn from to from' to' n → RowsIn from' to' from to n → Spreads from' to' s t → Spreads from to s t
spreads-rows from to from' to' s t n e there back h = record {
  len = h.len;
  holds = h.holds;
  along = along-rows from to from' to' t n (h.len ∙ e) there h.along;
  under = under-rows from to from' to' s t n e back h.under;
}

pub row-rows : (owner value owner' value' S : List ℕ) (n : ℕ) → length S ≡ n → RowsIn owner value owner' value' n → (m : ℕ) → m < n → Row owner value S m → Row owner' value' S m
row-rows owner value owner' value' S n e h m l r =
    let i = h r.row r.there (subst (λ (x : ℕ). x < n) (sym r.named) l) (omega (arith, e, has_in S (get_or value r.row 0) r.holds)) in
    record { row = i.0; there = i.1; named = i.2 ∙ r.named; holds = subst (λ (x : ℕ). has S x ≡ true) (sym i.3) r.holds }

-- marks that hold nothing can be spread on from
pub spreadable-none : {g : EdgeColumns} {s t : List ℕ} → length s ≤ module_limit → length s ≡ g.places → length t ≡ length s → ((m : ℕ) → has t m ≡ true → ⊥) → Spreadable g s t
unfolding Along Under Within
spreadable-none {g} few size len none = record {
  few = few;
  size = size;
  len = len;
  along = λ row l e. absurd (none (get_or g.from row 0) e);
  under = λ M k w d m e. absurd (none m e);
}

-- the targets of the kind 0 records

pub length-targets : (kind target : List ℕ) → length (import_targets kind target) ≡ length target
unfolding import_targets
length-targets kind target = length-map-up_to (λ (row : ℕ). cond (is_import (get_or kind row 0)) (get_or target row 0) missing) (length target)

pub target_at : (kind target : List ℕ) (row d : ℕ) → row < length target → get_or (import_targets kind target) row d ≡ cond (is_import (get_or kind row 0)) (get_or target row 0) missing
unfolding import_targets
target_at kind target row d l = get_d-map-up_to (λ (i : ℕ). cond (is_import (get_or kind i 0)) (get_or target i 0) missing) (length target) row d l

-- the code's steps

-- the edges of the rows below `row` are written, in a word that does not unfold at the code's goals
unfoldable pub ImportsBelow : List ℕ → List ℕ → List ℕ → ℕ → List ℕ → List ℕ → ℕ → Type 0
ImportsBelow record_module kind target row importers targets count = EdgesBelow record_module (import_targets kind target) row importers targets count

module _ (record_module kind target importers targets : List ℕ) where
  pub imports_start : ImportsBelow record_module kind target 0 importers targets 0
  unfolding ImportsBelow
  imports_start = edges-start record_module (import_targets kind target) importers targets

  pub imports_end : (row count : ℕ) → ImportsBelow record_module kind target row importers targets count → row ≡ length record_module → Edges record_module (import_targets kind target) importers targets count
  unfolding ImportsBelow
  imports_end row count g e = subst (λ (n : ℕ). EdgesBelow record_module (import_targets kind target) n importers targets count) e g

  module _ (row count : ℕ) (g : ImportsBelow record_module kind target row importers targets count) (inside : row < length target) where
    -- a row that is no import
    pub imports_other : (get_or kind row 0 ≡ 0 → ⊥) → ImportsBelow record_module kind target (row + 1) importers targets count
    unfolding ImportsBelow
    imports_other n =
        edges-pass record_module (import_targets kind target) row importers targets count g
        (target_at kind target row 0 inside ∙ ap (λ (b : Bool). cond b (get_or target row 0) missing) (ne_eqb (get_or kind row 0) 0 n))

    -- one without a target
    pub imports_missing : (normal : List ℕ) → resolved normal target row ≡ Missing → ImportsBelow record_module kind target (row + 1) importers targets count
    unfolding ImportsBelow
    imports_missing normal e =
        edges-pass record_module (import_targets kind target) row importers targets count g
        (target_at kind target row 0 inside ∙ ap (λ (x : ℕ). cond (is_import (get_or kind row 0)) x missing) (target_none normal target row (ap any_target e)) ∙ same (is_import (get_or kind row 0)))
      where
        same : (b : Bool) → cond b missing missing ≡ missing
        same true = refl
        same false = refl

    -- an import with a target, be it external or normal
    module _ (import : get_or kind row 0 ≡ 0) (importer_room : count < length importers) (target_room : count < length targets) (normal : List ℕ) (t : ℕ) where
      put : any_target (resolved normal target row) ≡ t ∷ [] → ImportsBelow record_module kind target (row + 1) (set importers count (get_or record_module row 0)) (set targets count t) (count + 1)
      unfolding ImportsBelow
      put e =
          let h = target-there normal target row t e in
          edges-put record_module (import_targets kind target) row importers targets count g t
          (h.0 ∙ sym (target_at kind target row 0 inside ∙ ap (λ (b : Bool). cond b (get_or target row 0) missing) (eq-eqb (get_or kind row 0) 0 import))) h.1 importer_room target_room

      pub imports_external : resolved normal target row ≡ External t → ImportsBelow record_module kind target (row + 1) (set importers count (get_or record_module row 0)) (set targets count t) (count + 1)
      imports_external e = put (ap any_target e)

      pub imports_normal : resolved normal target row ≡ Normal t → ImportsBelow record_module kind target (row + 1) (set importers count (get_or record_module row 0)) (set targets count t) (count + 1)
      imports_normal e = put (ap any_target e)

pub ruleset import_steps = (imports_start, imports_other, imports_missing, imports_external, imports_normal, imports_end)
