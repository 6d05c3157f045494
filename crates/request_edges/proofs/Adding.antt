-- Adding edges, row by row and in turn.
-- Assumes nothing.
use Rattle.std.specs.Prelude.{◌≡◌, ℕ, ◌+◌, ◌<◌, ◌≤◌, ◌⊎◌, List, [], ◌∷◌, ◌++◌, length, get_or}
use mathlib.Core.Path.{refl, sym, subst, ◌∙◌}
use mathlib.Core.Logic.{inl, inr, ⊎_elim, ⊎_map}
use native.Mathlib.Decide.{ℕ_discrete, dec_lt}
use native.Mathlib.Omega.{arith}
use lib.ListN.{get_or-append}
use Rattle.std.proofs.lemmas.List.{get_or_push, length_push}
use Rattle.tables.specs.Refusal.{row_limit}
use Rattle.request_edges.specs.declared.inner.EdgeList.{EdgeList}
use Rattle.request_edges.specs.inner.Edges.{RowsBelow, Rows, EdgeRows, In, Adds}
use Rattle.request_edges.specs.inner.Lent.{Fitting, EdgesKept}

-- no edges
pub adds_none : (E : ℕ → ℕ → Type 0) → ((u v : ℕ) → E u v → ⊥) → (e : EdgeRows) → Adds E 0 e e
adds_none E n e = record { room = refl; few = omega arith; kept = omega arith; front = λ i l. (refl, refl); each = λ i k l. absurd (omega arith); new = λ u v x. absurd (n u v x) }

-- the earlier edges are still there
earlier : {E : ℕ → ℕ → Type 0} {k : ℕ} {e e' : EdgeRows} → Adds E k e e' → {u v : ℕ} → In e u v → In e' u v
earlier a h = (h.0, omega (arith, h.1, a.kept), (a.front h.0 h.1).0 ∙ h.2, (a.front h.0 h.1).1 ∙ h.3)

module _ {E F : ℕ → ℕ → Type 0} {e e' : EdgeRows} where
  -- in turn
  pub adds_on : {j k : ℕ} {e'' : EdgeRows} → Adds E j e e' → Adds F k e' e'' → Adds (λ (u v : ℕ). E u v ⊎ F u v) (j + k) e e''
  adds_on {e'' = e''} a b = record {
    room = b.room ∙ a.room;
    few = omega (arith, a.few, b.few);
    kept = omega (arith, a.kept, b.kept);
    front = λ i l.
        let f = b.front i (omega (arith, l, a.kept)) in
        (f.0 ∙ (a.front i l).0, f.1 ∙ (a.front i l).1);
    each = λ i k l. at i k l (dec_lt i (length e'.from));
    new = λ u v x. ⊎_elim (λ y. earlier b (a.new u v y)) (b.new u v) x;
  }
    where
      at : (i : ℕ) → length e.from ≤ i → i < length e''.from → Dec (i < length e'.from) → E (get_or e''.from i 0) (get_or e''.to i 0) ⊎ F (get_or e''.from i 0) (get_or e''.to i 0)
      at i k l (yes m) = rw ((b.front i m).0, (b.front i m).1) (inl (a.each i k m))
      at i k l (no n) = inr (b.each i (omega (arith, n)) l)

  -- by edges that are the same, counted with no fewer rows
  pub adds-as : {j k : ℕ} → j ≤ k → ((u v : ℕ) → E u v → F u v) → ((u v : ℕ) → F u v → E u v) → Adds E j e e' → Adds F k e e'
  adds-as l f g a = record { room = a.room; few = omega (arith, a.few, l); kept = a.kept; front = a.front; each = λ i k m. f _ _ (a.each i k m); new = λ u v x. a.new u v (g u v x) }

pub adds-wide : {E : ℕ → ℕ → Type 0} {e e' : EdgeRows} {j k : ℕ} → j ≤ k → Adds E j e e' → Adds E k e e'
adds-wide l a = adds-as l (λ u v x. x) (λ u v x. x) a

-- one edge
module _ (e : EdgeRows) (same : length e.to ≡ length e.from) (u v : ℕ) where
  abbrev pub pushed : EdgeRows
  pushed = record { from = e.from ++ u ∷ []; to = e.to ++ v ∷ []; room = e.room }

  adds-one : Adds (λ (x y : ℕ). (u ≡ x) × (v ≡ y)) 1 e pushed
  adds-one = record {
    room = refl;
    few = omega (arith, longer);
    kept = omega (arith, longer);
    front = λ i l. (get_or-append e.from (u ∷ []) 0 i l, get_or-append e.to (v ∷ []) 0 i (omega (arith, l, same)));
    each = λ i k l. subst (λ (n : ℕ). (u ≡ get_or pushed.from n 0) × (v ≡ get_or pushed.to n 0)) (omega (arith, k, l, longer)) (sym last-from, sym last-to);
    new = λ x y h. (length e.from, omega (arith, longer), last-from ∙ h.0, last-to ∙ h.1);
  }
    where
      longer : length pushed.from ≡ length e.from + 1
      longer = length_push e.from u

      last-from : get_or pushed.from (length e.from) 0 ≡ u
      last-from = get_or_push e.from u 0 (length e.from) refl

      last-to : get_or pushed.to (length e.from) 0 ≡ v
      last-to = get_or_push e.to v 0 (length e.from) same

-- the rows below `row` are added, in a word that does not unfold at the code's goals
unfoldable pub Adding : List ℕ → ℕ → List ℕ → ℕ → EdgeRows → ℕ → EdgeRows → Type 0
Adding sources a targets b e row e' = Adds (RowsBelow sources a targets b row) row e e'

module _ (sources : List ℕ) (a : ℕ) (targets : List ℕ) (b : ℕ) (e : EdgeRows) where
  pub adding_start : Adding sources a targets b e 0 e
  unfolding Adding
  adding_start = adds_none (RowsBelow sources a targets b 0) (λ u v r. omega (arith, r.there)) e

  module _ (row : ℕ) (e' : EdgeRows) (g : Adding sources a targets b e row e') where
    pub adding_end : row ≡ length sources → Adds (Rows sources a targets b) (length sources) e e'
    unfolding Adding
    adding_end q = subst (λ (n : ℕ). Adds (RowsBelow sources a targets b n) n e e') q g

    pub adding_room : row < length sources → length e.from + length sources ≤ e.room → length e'.from + 1 ≤ e'.room
    unfolding Adding
    adding_room l r = omega (arith, g.room, g.few, l, r)

    below : {n m u v : ℕ} (r : RowsBelow sources a targets b n u v) → r.row < m → RowsBelow sources a targets b m u v
    below r l = record { row = r.row; there = l; known = r.known; aimed = r.aimed; source = r.source; target = r.target }

    -- the edge of one row; with it, the edges of one row more
    abbrev Row : ℕ → ℕ → ℕ → Type 0
    Row i u v = (get_or sources i 0 < row_limit) × (get_or targets i 0 < row_limit) × (get_or sources i 0 + a ≡ u) × (get_or targets i 0 + b ≡ v)

    last : {u v : ℕ} → RowsBelow sources a targets b (row + 1) u v → RowsBelow sources a targets b row u v ⊎ Row row u v
    last {u} {v} r = at_row (ℕ_discrete r.row row)
      where
        at_row : Dec (r.row ≡ row) → RowsBelow sources a targets b row u v ⊎ Row row u v
        at_row (yes q) = inr (subst (λ (i : ℕ). Row i u v) q (r.known, r.aimed, r.source, r.target))
        at_row (no k) = inl (below r (omega (arith, r.there, k)))

    -- a row that has no number in the one column, or in the other
    passed : ((get_or sources row 0 < row_limit) → (get_or targets row 0 < row_limit) → ⊥) → Adding sources a targets b e (row + 1) e'
    unfolding Adding
    passed n =
        adds-as (omega arith) (λ u v r. below r (omega (arith, r.there))) (λ u v r. ⊎_elim (λ o. o) (λ h. absurd (n h.0 h.1)) (last r)) g

    pub adding_unsourced : row_limit ≤ get_or sources row 0 → Adding sources a targets b e (row + 1) e'
    adding_unsourced m = passed (λ s t. omega arith)

    pub adding_unaimed : row_limit ≤ get_or targets row 0 → Adding sources a targets b e (row + 1) e'
    adding_unaimed m = passed (λ s t. omega arith)

    -- one that has both
    pub adding_put : get_or sources row 0 < row_limit → get_or targets row 0 < row_limit → length e'.to ≡ length e'.from
        → {e'' : EdgeRows} → e'' ≡ record { from = e'.from ++ (get_or sources row 0 + a) ∷ []; to = e'.to ++ (get_or targets row 0 + b) ∷ []; room = e'.room } → Adding sources a targets b e (row + 1) e''
    unfolding Adding
    adding_put s t same q =
        rw q
        (adds-as (omega arith) (λ u v x. ⊎_elim (λ r. below r (omega (arith, r.there))) (λ h. record { row = row; there = omega arith; known = s; aimed = t; source = h.0; target = h.1 }) x)
        (λ u v r. ⊎_map (λ o. o) (λ h. (h.2, h.3)) (last r))
        (adds_on g (adds-one e' same (get_or sources row 0 + a) (get_or targets row 0 + b))))

-- the slices stay where nothing is written, and through two calls
pub edges_kept : (e : EdgeList) → Fitting e → EdgesKept e e
edges_kept e h = record { from = refl; to = refl; fitting = h }

pub edges-kept-on : {e e' e'' : EdgeList} → EdgesKept e e' → EdgesKept e' e'' → EdgesKept e e''
edges-kept-on a b = record { from = b.from ∙ a.from; to = b.to ∙ a.to; fitting = b.fitting }

pub ruleset adding_steps = (edges_kept, edges-kept-on, adding_start, adding_room, adding_unsourced, adding_unaimed, adding_put, adding_end)
