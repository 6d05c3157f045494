-- The entry chunk of a root, and when a root is an analysed entry.
-- Assumes nothing.
use Rattle.std.specs.Prelude.{◌≡◌, ◌≢◌, ℕ, suc, ◌+◌, ◌-◌, ◌<◌, Bool, true, false, cond, not, ◌&&◌, eqb, List, [], ◌∷◌, ◌++◌, map, length, get_or, ◌≤◌, Option, Some, None}
use mathlib.Core.Path.{refl, sym, ap, subst, ◌∙◌}
use mathlib.Core.Logic.{⊎_elim}
use mathlib.Core.List.{Memᴰ}
use native.Mathlib.Omega.{arith}
use lib.ListN.{get_or-eq_default}
use borrow.Author.Tests.{eqb-true, eq-eqb, ne_eqb}
use Rattle.std.specs.Option.{MatchOption}
use Rattle.std.proofs.Math.Bool.{and-false}
use Rattle.lists.specs.Words.{count_from, keep, any, Distinct}
use Rattle.lists.proofs.Laws.{count_from-append, mem-count_from, keep_append, keep-none}
use Rattle.lists.proofs.Distinct.{distinct-places}
use Rattle.lists.proofs.Tests.{cond-id}
use Rattle.tables.specs.Project.{Project, missing}
use Rattle.tables.specs.Readings.{chunks, flagged, rows_of, values_of, first_of, analysed_row, is_analysed, entry_chunk_of}
use Rattle.tables.specs.Accepted.{Accepted}
use Rattle.analysed_entries.specs.inner.Entries.{Entry}
use Rattle.tables.proofs.OwnerRows.{mem-rows, rows_none, values-row}
use Rattle.load_order.proofs.LoadOrders.{Pairs}
use Rattle.load_order.proofs.Arranging.{rows-rise}

-- the first row of an owner

module _ (owner column : List ℕ) (m : ℕ) where
  pub first_found : (i : ℕ) → i < length owner → get_or owner i 0 ≡ m → ((k : ℕ) → k < i → get_or owner k 0 ≢ m) → first_of (values_of owner column m) ≡ get_or column i 0
  unfolding values_of rows_of
  first_found i l e n =
      let mine : ℕ → Bool = λ (row : ℕ). eqb (get_or owner row 0) m in
      let r : ℕ = length owner - suc i in
      let split : length owner ≡ i + suc r = omega arith in
      let before : keep mine (count_from 0 i) ≡ [] = keep-none mine (count_from 0 i) (λ k h. ne_eqb (get_or owner k 0) m (n k (let b = mem-count_from 0 i h in omega arith))) in
      let here : keep mine (count_from (0 + i) (suc r)) ≡ i ∷ keep mine (count_from (suc i) r) =
      ap (λ (j : ℕ). keep mine (count_from j (suc r))) (let z : 0 + i ≡ i = omega arith in z) ∙ ap (λ (b : Bool). cond b (i ∷ keep mine (count_from (suc i) r)) (keep mine (count_from (suc i) r))) (eq-eqb (get_or owner i 0) m e) in
      ap (λ (rows : List ℕ). first_of (map (λ (row : ℕ). get_or column row 0) rows))
      (ap (λ (k : ℕ). keep mine (count_from 0 k)) split
      ∙ ap (keep mine) (count_from-append 0 i (suc r))
      ∙ keep_append mine (count_from 0 i) (count_from (0 + i) (suc r))
      ∙ ap (λ (k : List ℕ). k ++ keep mine (count_from (0 + i) (suc r))) before
      ∙ here)

  pub first-none : ((k : ℕ) → k < length owner → get_or owner k 0 ≢ m) → first_of (values_of owner column m) ≡ missing
  unfolding values_of
  first-none n = ap (λ (rows : List ℕ). first_of (map (λ (row : ℕ). get_or column row 0) rows)) (rows_none owner m n)

module _ (p : Project) (root : ℕ) where
  -- where no entry stands twice, a root is an analysed entry if it is included and its entry chunk is found
  pub analysed-found : Distinct p.entry → is_analysed p root ≡ (flagged p.included root && not (eqb (entry_chunk_of p root) missing))
  unfolding is_analysed entry_chunk_of values_of Pairs
  analysed-found d = go (rows_of p.entry root) (rows-rise p.entry root) (λ row h. mem-rows p.entry root h)
    where
      go : (rows : List ℕ) → Pairs ◌<◌ rows → ((row : ℕ) → Memᴰ row rows → (row < length p.entry) × (get_or p.entry row 0 ≡ root))
          → any (analysed_row p) rows ≡ (flagged p.included root && not (eqb (first_of (map (λ (row : ℕ). get_or p.entry_chunk row 0) rows)) missing))
      go [] q f = sym (and-false (flagged p.included root))
      go (row ∷ []) q f = rw (f row (Memᴰ.head refl)).1 (cond-id _)
      go (row ∷ next ∷ rows) q f =
          let r = f row (Memᴰ.head refl) in
          let s = f next (Memᴰ.tail (Memᴰ.head refl)) in
          absurd (distinct-places p.entry d row next (q.0 next (Memᴰ.head refl)) s.0 (r.1 ∙ sym s.1))

-- entries of an accepted project

module _ (p : Project) (root : ℕ) (a : Accepted p) where
  found : is_analysed p root ≡ (flagged p.included root && not (eqb (entry_chunk_of p root) missing))
  found = analysed-found p root a.agrees.entry

  pub chunk_inside : (entry_chunk_of p root ≢ missing) → entry_chunk_of p root < chunks p
  unfolding entry_chunk_of
  chunk_inside = go (values_of p.entry p.entry_chunk root) (λ x h. h)
    where
      go : (xs : List ℕ) → ((x : ℕ) → Memᴰ x xs → Memᴰ x (values_of p.entry p.entry_chunk root)) → (first_of xs ≢ missing) → first_of xs < chunks p
      go [] f y = absurd (y refl)
      go (x ∷ xs) f y =
          let r = values-row p.entry p.entry_chunk root x (f x (Memᴰ.head refl)) in
          ⊎_elim (λ h. subst (λ (w : ℕ). w < chunks p) r.3 h) (λ h. absurd (y (sym r.3 ∙ h))) (a.values.entry_chunk r.0 (omega (arith, a.sizes.entry_chunk, r.1)))

  -- an included root that its rows give a chunk, or none
  pub entry-found : flagged p.included root ≡ true → (r : Option ℕ) → MatchOption r (entry_chunk_of p root ≡ missing) (λ chunk. (entry_chunk_of p root ≡ chunk) × (chunk ≢ missing))
      → MatchOption r (is_analysed p root ≡ false) (λ chunk. (is_analysed p root ≡ true) × Entry p root chunk)
  entry-found h None e = found ∙ rw (h, e)
  entry-found h (Some chunk) e =
      let one : get_or p.included root 0 ≡ 1 = eqb-true _ 1 h in
      let past : length p.included ≤ root → get_or p.included root 0 ≡ 0 = get_or-eq_default p.included 0 in (
        found ∙ rw (h, e.0, ne_eqb chunk missing e.1),
        record { within = grind (arith, one, past, a.sizes.included); from = sym e.0; inside = rw (← e.0) (chunk_inside (rw e.0 e.1)) },
      )

  -- a root that is not included
  pub excluded : flagged p.included root ≡ false → is_analysed p root ≡ false
  excluded h = found ∙ rw h

-- what is found
pub ruleset finding = (first_found, first-none)

pub ruleset analysing = (entry-found, excluded)
