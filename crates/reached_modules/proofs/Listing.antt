-- Listing the analysed entries' roots, and marking what they reach.
-- Assumes nothing.
use Rattle.std.specs.Prelude.{◌≡◌, ℕ, ◌+◌, ◌<◌, ◌≤◌, Bool, true, false, cond, not, ◌&&◌, eqb, List, [], ◌∷◌, ◌++◌, map, length, get_or, drop, set}
use mathlib.Core.Path.{refl, sym, ap, ◌∙◌}
use mathlib.Core.Logic.{⊎_elim}
use mathlib.Core.List.{map-append}
use native.Mathlib.Omega.{arith}
use native.Mathlib.Nat.{zero-add}
use lib.ListN.{length-map, length-append}
use borrow.Author.Tests.{eq-eqb, ne_eqb}
use Rattle.lists.specs.Words.{up_to, keep, has}
use Rattle.lists.proofs.Laws.{and-join, and-out, keep_append, count_from-append, length-keep, length-count_from, front-more}
use Rattle.tables.specs.Project.{Project, missing}
use Rattle.tables.specs.Readings.{flagged, analysed_row, analysed}
use Rattle.marks.specs.Steps.{looked, Owners}
use Rattle.import_edges.specs.inner.Spread.{Spreads}
use Rattle.wrap_rules.specs.Plan.{roots}
use Rattle.reached_modules.specs.inner.Roots.{Written, Reaching}
use Rattle.marks.proofs.Steps.{looked-has}

-- listing the roots: the rows below `row` are done
module _ (p : Project) where
  abbrev pub roots_to : ℕ → List ℕ
  roots_to row = map (λ (i : ℕ). get_or p.entry i 0) (keep (analysed_row p) (up_to row))

  rows_more : (row : ℕ) → up_to (row + 1) ≡ up_to row ++ (row ∷ [])
  rows_more row = count_from-append 0 row 1 ∙ ap (λ (i : ℕ). up_to row ++ (i ∷ [])) (zero-add row)

  roots-more : (row : ℕ) → roots_to (row + 1) ≡ roots_to row ++ map (λ (i : ℕ). get_or p.entry i 0) (keep (analysed_row p) (row ∷ []))
  roots-more row =
      ap (λ (xs : List ℕ). map (λ (i : ℕ). get_or p.entry i 0) (keep (analysed_row p) xs)) (rows_more row)
      ∙ ap (map (λ (i : ℕ). get_or p.entry i 0)) (keep_append (analysed_row p) (up_to row) (row ∷ []))
      ∙ map-append (λ (i : ℕ). get_or p.entry i 0) (keep (analysed_row p) (up_to row)) (keep (analysed_row p) (row ∷ []))

  pub root-passed : (row : ℕ) → analysed_row p row ≡ false → roots_to (row + 1) ≡ roots_to row
  root-passed row e = roots-more row ∙ ap (λ (b : Bool). roots_to row ++ map (λ (i : ℕ). get_or p.entry i 0) (cond b (row ∷ []) [])) e ∙ mathlib.Core.List.append-nil (roots_to row)

  pub root-listed : (row : ℕ) → analysed_row p row ≡ true → roots_to (row + 1) ≡ roots_to row ++ (get_or p.entry row 0 ∷ [])
  root-listed row e = roots-more row ∙ ap (λ (b : Bool). roots_to row ++ map (λ (i : ℕ). get_or p.entry i 0) (cond b (row ∷ []) [])) e

  pub roots_few : (row : ℕ) → length (roots_to row) ≤ row
  roots_few row = omega (arith, length-map (keep (analysed_row p) (up_to row)) (λ (i : ℕ). get_or p.entry i 0), length-keep (analysed_row p) (up_to row), length-count_from 0 row)

  pub record Listing (old : List ℕ) (row : ℕ) (new : List ℕ) (count : ℕ) : Type 0 where
    pub counted : count ≡ length (roots_to row)
    pub written : new ≡ roots_to row ++ drop (length (roots_to row)) old

  module _ (old : List ℕ) (row : ℕ) (new : List ℕ) (count : ℕ) (g : Listing old row new count) where
    pub listing-pass : analysed_row p row ≡ false → Listing old (row + 1) new count
    listing-pass e = let q = root-passed row e in record { counted = g.counted ∙ ap length (sym q); written = g.written ∙ ap (λ (xs : List ℕ). xs ++ drop (length xs) old) (sym q) }

    pub listing-put : analysed_row p row ≡ true → row < length old → Listing old (row + 1) (set new count (get_or p.entry row 0)) (count + 1)
    listing-put e l =
        let q = root-listed row e in
        let m = get_or p.entry row 0 in
        let one : length (roots_to (row + 1)) ≡ count + 1 = ap length q ∙ omega (arith, length-append (roots_to row) (m ∷ []), g.counted) in
        record {
          counted = sym one;
          written = ap (λ (xs : List ℕ). set xs count m) (g.written ∙ ap (λ (i : ℕ). roots_to row ++ drop i old) (sym g.counted))
              ∙ front-more (roots_to row) old count m (sym g.counted) (omega (arith, g.counted, roots_few row))
              ∙ ap (λ (xs : List ℕ). xs ++ drop (count + 1) old) (sym q)
              ∙ ap (λ (i : ℕ). roots_to (row + 1) ++ drop i old) (sym one);
        }

  pub listing_start : (old : List ℕ) → Listing old 0 old 0
  listing_start old = record { counted = refl; written = refl }

  pub listing-end : (old : List ℕ) (row : ℕ) (new : List ℕ) (count : ℕ) → Listing old row new count → row ≡ length p.entry → Written (roots p) old new count
  unfolding analysed
  listing-end old row new count g e = record {
    count = g.counted ∙ ap (λ (i : ℕ). length (roots_to i)) e;
    written = g.written ∙ ap (λ (i : ℕ). roots_to i ++ drop (length (roots_to i)) old) e;
  }

-- the roots of the rows below `row` are listed, in a word that does not unfold at the code's goals
unfoldable pub RootsBelow : Project → List ℕ → ℕ → List ℕ → ℕ → Type 0
RootsBelow p old row new count = Listing p old row new count

module _ (p : Project) (old : List ℕ) where
  pub roots_start : RootsBelow p old 0 old 0
  unfolding RootsBelow
  roots_start = listing_start p old

  module _ (row : ℕ) (new : List ℕ) (count : ℕ) (g : RootsBelow p old row new count) where
    -- an entry without a chunk
    pub roots_chunkless : get_or p.entry_chunk row 0 ≡ missing → RootsBelow p old (row + 1) new count
    unfolding RootsBelow
    roots_chunkless e =
        listing-pass p old row new count g
        (and-out (flagged p.included (get_or p.entry row 0)) (not (eqb (get_or p.entry_chunk row 0) missing)) (ap not (eq-eqb (get_or p.entry_chunk row 0) missing e)))

    -- one that isn't included
    pub roots_excluded : (get_or p.included (get_or p.entry row 0) 0 ≡ 1 → ⊥) → RootsBelow p old (row + 1) new count
    unfolding RootsBelow
    roots_excluded n =
        listing-pass p old row new count g
        (ap (λ (b : Bool). b && not (eqb (get_or p.entry_chunk row 0) missing)) (ne_eqb (get_or p.included (get_or p.entry row 0) 0) 1 n))

    -- an analysed one
    pub roots_analysed : (get_or p.entry_chunk row 0 ≡ missing → ⊥) → get_or p.included (get_or p.entry row 0) 0 ≡ 1 → row < length p.entry → length p.entry ≤ length old → RootsBelow p old (row + 1) (set new count (get_or p.entry row 0)) (count + 1)
    unfolding RootsBelow
    roots_analysed n e b l =
        listing-put p old row new count g
        (and-join (flagged p.included (get_or p.entry row 0)) (not (eqb (get_or p.entry_chunk row 0) missing)) (eq-eqb (get_or p.included (get_or p.entry row 0) 0) 1 e) (ap not (ne_eqb (get_or p.entry_chunk row 0) missing n)))
        (omega (arith, b, l))

    pub roots_end : row ≡ length p.entry → Written (roots p) old new count
    unfolding RootsBelow
    roots_end e = listing-end p old row new count g e

pub ruleset root_steps = (roots_start, roots_chunkless, roots_excluded, roots_analysed, roots_end)

-- marking the roots, and then closing
pub reaching : (included root_list from to s start t : List ℕ) (n : ℕ) → length s ≡ n → ((m : ℕ) → has s m ≡ true → ⊥) → Owners root_list (looked 0 included root_list) (length root_list) s start
    → Spreads from to start t → Reaching included root_list from to n t
reaching included root_list from to s start t n e none o w = record {
  start = start;
  len = o.len ∙ e;
  root = λ k l h i. o.new k l (looked-has included root_list k l ∙ h) (omega (arith, e, i));
  only = λ m e. ⊎_elim (λ h. absurd (none m h)) (λ r. (r.0, r.1, r.3)) (o.only m e);
  spreads = w;
}
