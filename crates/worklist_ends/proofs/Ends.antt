-- Listing the seeds, row by row, and marks and a list made of places.
-- Assumes nothing.
use Rattle.std.specs.Prelude.{◌≡◌, ℕ, ◌+◌, ◌-◌, ◌<◌, ◌≤◌, Bool, true, List, ◌++◌, length, get_or, take, drop, set}
use mathlib.Core.Path.{refl, sym, ap, subst, ◌∙◌}
use mathlib.Core.Logic.{inr}
use mathlib.Core.Bool.{true≢false}
use mathlib.Core.List.{Memᴰ}
use native.Mathlib.Omega.{arith}
use native.Mathlib.Decide.{ℕ_discrete}
use lib.ListN.{length-set, length-drop, take-append-drop}
use lib.Seq.{get_or-set_same, get_or-set_other, get_or-take, get_or-drop, length-take-le, ext_get_or}
use Rattle.std.proofs.lemmas.List.{get_or-append_right}
use Rattle.lists.specs.Words.{has, marks_of}
use Rattle.lists.proofs.Laws.{mark-in, has-yes, has-not, length-marks_of}
use Rattle.lists.proofs.Passes.{Passed}
use Rattle.lists.proofs.Members.{get_d-mem}
use Rattle.request_queue.specs.inner.Growing.{Listing, Listed, Grew, Grown}
use Rattle.request_queue.proofs.Growing.{grew-has, grew-on}
use Rattle.worklist_ends.specs.inner.Ends.{WrittenBelow, ListWritten}

-- of the first so many seeds the eligible ones are listed, and no other module is
pub record SeededBelow (seeds eligible : List ℕ) (rows : ℕ) (list list' : Listing) : Type 0 where
  pub grew : Grew (λ (m : ℕ). Memᴰ m seeds × (has eligible m ≡ true)) list list'
  pub listed : Listed list'.marks list'.list
  pub all : (i : ℕ) → i < rows → has eligible (get_or seeds i 0) ≡ true → has list'.marks (get_or seeds i 0) ≡ true

-- all seeds are looked at
abbrev pub Seeded : List ℕ → List ℕ → Listing → Listing → Type 0
Seeded seeds eligible list list' = SeededBelow seeds eligible (length seeds) list list'

module _ (seeds eligible : List ℕ) (list : Listing) (row : ℕ) (list' : Listing) (g : SeededBelow seeds eligible row list list') where
  abbrev Seed : ℕ → Type 0
  Seed m = Memᴰ m seeds × (has eligible m ≡ true)

  -- a seed that isn't eligible
  pub seeded_pass : get_or eligible (get_or seeds row 0) 0 ≡ 0 → SeededBelow seeds eligible (row + 1) list list'
  seeded_pass out = record { grew = g.grew; listed = g.listed; all = λ i b e. go i b e (ℕ_discrete i row) }
    where
      go : (i : ℕ) → i < row + 1 → has eligible (get_or seeds i 0) ≡ true → Dec (i ≡ row) → has list'.marks (get_or seeds i 0) ≡ true
      go i b e (yes z) = absurd (true≢false (sym (subst (λ (j : ℕ). has eligible (get_or seeds j 0) ≡ true) z e) ∙ has-not eligible (get_or seeds row 0) out))
      go i b e (no n) = g.all i (omega arith) e

  -- one that is
  pub seeded_put : row < length seeds → (get_or eligible (get_or seeds row 0) 0 ≡ 0 → ⊥) → {list'' : Listing} → Grown (λ (m : ℕ). m ≡ get_or seeds row 0) list' list''
      → SeededBelow seeds eligible (row + 1) list list''
  seeded_put l q {list''} p = record {
    grew = grew-on (λ m s. s) (λ m e. inr (subst Seed (sym e) (get_d-mem seeds row l, has-yes eligible (get_or seeds row 0) q))) g.grew p.grew;
    listed = p.grew.listed g.listed;
    all = λ i b e. go i b e (ℕ_discrete i row);
  }
    where
      go : (i : ℕ) → i < row + 1 → has eligible (get_or seeds i 0) ≡ true → Dec (i ≡ row) → has list''.marks (get_or seeds i 0) ≡ true
      go i b e (yes z) = subst (λ (j : ℕ). has list''.marks (get_or seeds j 0) ≡ true) (sym z) (p.all (get_or seeds row 0) refl)
      go i b e (no n) = grew-has p.grew (get_or seeds i 0) (g.all i (omega arith) e)

-- a mark that isn't written yet is as it was
pub mark-left : (f : ℕ → Bool) (old : List ℕ) (m : ℕ) (marks : List ℕ) → Passed f old m marks → get_or marks m 0 ≡ get_or old m 0
mark-left f old m marks p =
    let z : m + (m - m) ≡ m = omega arith in
    ap (λ (s : List ℕ). get_or s m 0) p.made ∙ get_or-append_right (marks_of f m) (drop m old) m m 0 (length-marks_of f m) (omega arith) ∙ get_or-drop m old (m - m) 0 ∙ ap (λ (i : ℕ). get_or old i 0) z

-- a list whose front is another and whose rest is that of a third
pub front_rest : (list out out' : List ℕ) → length list ≤ length out → length out' ≡ length out → ((i : ℕ) → i < length list → get_or out' i 0 ≡ get_or list i 0) → ((i : ℕ) → length list ≤ i → get_or out' i 0 ≡ get_or out i 0)
    → out' ≡ list ++ drop (length list) out
front_rest list out out' room same front rest =
    let n = length list in
    let a : length (take n out') ≡ n = length-take-le n out' (omega arith) in
    sym (take-append-drop n out')
    ∙ ap (λ (xs : List ℕ). xs ++ drop n out')
    (ext_get_or 0 (take n out') list a
    (λ i l. let b : i < n = omega arith in get_or-take n out' i 0 b ∙ front i b))
    ∙ ap (λ (xs : List ℕ). list ++ xs)
    (ext_get_or 0 (drop n out') (drop n out) (length-drop n out' ∙ ap (λ (k : ℕ). k - n) same ∙ sym (length-drop n out))
    (λ i l. get_or-drop n out' i 0 ∙ rest (n + i) (omega arith) ∙ sym (get_or-drop n out i 0)))

pub written_start : (placed out : List ℕ) → WrittenBelow placed out 0 out
written_start placed out = record { room = refl; done = λ list h i l b. absurd (omega arith); rest = λ list h i l. refl }

module _ (placed out : List ℕ) (m : ℕ) (out' : List ℕ) (w : WrittenBelow placed out m out') where
  -- a module that isn't listed
  pub written-pass : get_or placed m 0 ≡ 0 → WrittenBelow placed out (m + 1) out'
  written-pass z = record {
    room = w.room;
    done = λ list h i l b. go list h i l b (ℕ_discrete (get_or list i 0) m);
    rest = w.rest;
  }
    where
      go : (list : List ℕ) → Listed placed list → (i : ℕ) → i < length list → get_or list i 0 < m + 1 → Dec (get_or list i 0 ≡ m) → get_or out' i 0 ≡ get_or list i 0
      go list h i l b (yes e) = absurd (omega (arith, (h.placed i l).1, ap (λ (x : ℕ). get_or placed x 0) e))
      go list h i l b (no n) = w.done list h i l (omega (arith, n))

  -- one that is
  pub written-put : (end : ℕ) → get_or placed m 0 ≡ end + 1 → end < length out → WrittenBelow placed out (m + 1) (set out' end m)
  written-put end q inside = record {
    room = length-set out' end m ∙ w.room;
    done = λ list h i l b. go list h i l b (ℕ_discrete i end);
    rest = λ list h i l. get_or-set_other out' end i m 0 (λ z. past list h i l z) ∙ w.rest list h i l;
  }
    where
      at : (list : List ℕ) → Listed placed list → (end < length list) × (get_or list end 0 ≡ m)
      at list h =
          let r = h.listed m (mark-in (get_or placed m 0) (λ z. omega (arith, z, q))) in
          let z : r.0 ≡ end = omega (arith, q, (h.placed r.0 r.1).1, ap (λ (x : ℕ). get_or placed x 0) r.2) in
          (omega (arith, z, r.1), subst (λ (i : ℕ). get_or list i 0 ≡ m) z r.2)

      past : (list : List ℕ) → Listed placed list → (i : ℕ) → length list ≤ i → i ≡ end → ⊥
      past list h i l z = omega (arith, z, (at list h).0)

      go : (list : List ℕ) → Listed placed list → (i : ℕ) → i < length list → get_or list i 0 < m + 1 → Dec (i ≡ end) → get_or (set out' end m) i 0 ≡ get_or list i 0
      go list h i l b (yes z) = subst (λ (j : ℕ). get_or (set out' end m) j 0 ≡ get_or list j 0) (sym z) (get_or-set_same out' end m 0 (omega (arith, inside, w.room)) ∙ sym (at list h).1)
      go list h i l b (no n) =
          get_or-set_other out' end i m 0 n
          ∙ w.done list h i l (let k : get_or list i 0 ≡ m → ⊥ = λ e. n (omega (arith, q, (h.placed i l).1, ap (λ (x : ℕ). get_or placed x 0) e)) in omega (arith, k))

-- the list is written
pub list_written : {placed out out' list : List ℕ} → ListWritten placed out out' → Listed placed list → length list ≤ length out → out' ≡ list ++ drop (length list) out
list_written {placed} {out} {out'} {list} w h room =
    front_rest list out out' room w.room (λ i l. w.done list h i l (h.placed i l).0) (λ i l. w.rest list h i l)
