-- Visits in turn, as a code's loop makes them: what is known of the state between two of them, and how a visit is put together from the
-- visits of its successors.
-- Assumes nothing.
use mathlib.Core.Path.{◌≡◌, refl, sym, ap, subst, ◌∙◌}
use mathlib.Core.Bool.{Bool, true, false, cond}
use mathlib.Core.Logic.{⊎_elim}
use mathlib.Core.List.{List, [], ◌∷◌, ◌++◌, foldl, foldl-append, flat_map}
use Prim.Native.Nat.{ℕ, zero, suc, ◌+◌, ◌-◌, ◌≤◌}
use native.Mathlib.Nat.{not-suc-le-zero}
use native.Mathlib.Omega.{arith}
use lib.ListN.{length, get_or}
use Rattle.lists.specs.Words.{zeros, count_from}
use Rattle.lists.proofs.Laws.{both}
use Rattle.lists.proofs.Maps.{flat-snoc}
use Rattle.walk.specs.Walk.{St, fresh, enter, leave, visit, walk, Visits}
use Rattle.walk.proofs.Visits.{Grown, set-zeros, zeros-le, enters-true, visit-old, visit-new, visit-met, visit-enters, visits-grown}

-- a column is what its rows lead to
flat-shift : {B : Type 0} (f : ℕ → List B) (i n : ℕ) → flat_map f (count_from (suc i) n) ≡ flat_map (λ (k : ℕ). f (suc k)) (count_from i n)
unfolding flat_map
flat-shift f i zero = refl
flat-shift f i (suc n) = ap (λ (l : List _). f (suc i) ++ l) (flat-shift f (suc i) n)

all-rows : (xs : List ℕ) → xs ≡ flat_map (λ (row : ℕ). get_or xs row 0 ∷ []) (count_from 0 (length xs))
unfolding flat_map
all-rows [] = refl
all-rows (x ∷ xs) = ap (λ (l : List ℕ). x ∷ l) (all-rows xs ∙ sym (flat-shift (λ (row : ℕ). get_or (x ∷ xs) row 0 ∷ []) 0 (length xs)))

pub column-rows : (xs : List ℕ) → xs ≡ flat_map (λ (row : ℕ). get_or xs row 0 ∷ []) (count_from 0 (length xs - 0))
column-rows xs = let n : length xs - 0 ≡ length xs = omega arith in rw n (all-rows xs)

module _ (succ : ℕ → List ℕ) (gate : ℕ → Bool) {A : Type 0} (act : A → ℕ → A) where
  pub none-visited : (s : St A) → Visits succ gate act s [] s
  none-visited s = record { same = λ k z. refl }

  -- a place that was met, or that the gate stops
  pub met-visited : (s : St A) (m : ℕ) → fresh s m ≡ false → Visits succ gate act s (m ∷ []) s
  met-visited s m e = record { same = λ k z. visit-met succ gate act k s m e }

  -- any other place: it is marked, its successors are visited, and then the action is done
  pub left-visited : (s t : St A) (m : ℕ) → gate m ≡ true → fresh s m ≡ true → Visits succ gate act (enter m s) (succ m) t → Visits succ gate act s (m ∷ []) (leave act m t)
  left-visited s t m g e v = record { same = go }
    where
      go : (k : ℕ) → zeros s.marks ≤ k → visit succ gate act k s m ≡ leave act m t
      go zero z = absurd (not-suc-le-zero (subst (λ (n : ℕ). n ≤ 0) (sym (set-zeros s.marks m e)) z))
      go (suc k) z = visit-enters succ gate act k s m g e ∙ ap (leave act m) (v.same k (omega (arith, set-zeros s.marks m e)))

  module _ {s t : St A} {xs : List ℕ} (v : Visits succ gate act s xs t) where
    -- marks only grow
    pub visited-grown : Grown s.marks t.marks
    visited-grown = subst (λ (u : St A). Grown s.marks u.marks) (v.same (zeros s.marks) (omega arith)) (visits-grown succ gate act (zeros s.marks) s xs)

    pub visited-then : {u : St A} {ys : List ℕ} → Visits succ gate act t ys u → Visits succ gate act s (xs ++ ys) u
    visited-then {u} {ys} w = record {
      same = λ k z.
          foldl-append (visit succ gate act k) s xs ys
          ∙ ap (λ (r : St A). foldl (visit succ gate act k) r ys) (v.same k z)
          ∙ w.same k (let g = visited-grown in omega (arith, g.fewer));
    }

    pub visited-walk : walk succ gate act s xs ≡ t
    unfolding walk
    visited-walk = v.same (length s.marks) (zeros-le s.marks)

  -- what each action keeps is kept
  module _ (P : A → Type 0) (keeps : (a : A) (m : ℕ) → P a → P (act a m)) where
    fold-keeps : (f : St A → ℕ → St A) → ((s : St A) (x : ℕ) → P s.made → P (f s x).made) → (s : St A) (xs : List ℕ) → P s.made → P (foldl f s xs).made
    fold-keeps f h s [] p = p
    fold-keeps f h s (x ∷ xs) p = fold-keeps f h (f s x) xs (h s x p)

    visit-keeps : (k : ℕ) (s : St A) (m : ℕ) → P s.made → P (visit succ gate act k s m).made
    unfolding visit
    visit-keeps zero s m p = p
    visit-keeps (suc k) s m p =
        let inner : St A = foldl (visit succ gate act k) (enter m s) (succ m) in
        ⊎_elim
        (λ e. rw (visit-new succ gate act k s m e) (keeps inner.made m (fold-keeps (visit succ gate act k) (visit-keeps k) (enter m s) (succ m) p)))
        (λ e. rw (visit-old succ gate act (suc k) s m e) p)
        (both (cond (gate m) (fresh s m) false))

    pub visited-keeps : {s t : St A} {xs : List ℕ} → Visits succ gate act s xs t → P s.made → P t.made
    visited-keeps {s} {t} {xs} v p = subst (λ (u : St A). P u.made) (v.same (zeros s.marks) (omega arith)) (fold-keeps (visit succ gate act (zeros s.marks)) (visit-keeps (zeros s.marks)) s xs p)

  -- what grows by one with an action grows by no more than is newly met
  module _ (size : A → ℕ) (rises : (a : A) (m : ℕ) → size (act a m) ≤ size a + 1) where
    abbrev bound : St A → ℕ
    bound s = size s.made + zeros s.marks

    fold-room : (f : St A → ℕ → St A) → ((s : St A) (x : ℕ) → bound (f s x) ≤ bound s) → (s : St A) (xs : List ℕ) → bound (foldl f s xs) ≤ bound s
    fold-room f h s [] = omega arith
    fold-room f h s (x ∷ xs) = omega (arith, h s x, fold-room f h (f s x) xs)

    visit-room : (k : ℕ) (s : St A) (m : ℕ) → bound (visit succ gate act k s m) ≤ bound s
    unfolding visit
    visit-room zero s m = omega arith
    visit-room (suc k) s m =
        let inner : St A = foldl (visit succ gate act k) (enter m s) (succ m) in
        ⊎_elim
        (λ e.
        let z = set-zeros s.marks m (enters-true succ gate act s m e).1 in
        rw (visit-new succ gate act k s m e) (omega (arith, rises inner.made m, fold-room (visit succ gate act k) (visit-room k) (enter m s) (succ m))))
        (λ e. rw (visit-old succ gate act (suc k) s m e) (omega arith))
        (both (cond (gate m) (fresh s m) false))

    pub visited-room : {s t : St A} {xs : List ℕ} → Visits succ gate act s xs t → size t.made + zeros t.marks ≤ size s.made + zeros s.marks
    visited-room {s} {t} {xs} v = subst (λ (u : St A). bound u ≤ bound s) (v.same (zeros s.marks) (omega arith)) (fold-room (visit succ gate act (zeros s.marks)) (visit-room (zeros s.marks)) s xs)

  -- between the rows of a loop: from s where it begins, at row `first`, to t at `row`
  pub record Going (f : ℕ → List ℕ) (first : ℕ) (s : St A) (row : ℕ) (t : St A) : Type 0 where
    pub so_far : Visits succ gate act s (flat_map f (count_from first (row - first))) t
    pub after : first ≤ row

  module _ (f : ℕ → List ℕ) (first : ℕ) (s : St A) where
    pub going_start : Going f first s first s
    unfolding flat_map
    going_start =
        let n : first - first ≡ 0 = omega arith in
        record { so_far = rw n (none-visited s); after = omega arith }

    module _ {row : ℕ} {t : St A} (g : Going f first s row t) where
      -- a row that leads to what is then visited
      pub going-row : {u : St A} → Visits succ gate act t (f row) u → Going f first s (row + 1) u
      going-row {u} v = record {
        so_far = subst (λ (l : List ℕ). Visits succ gate act s l u) (sym next) (visited-then g.so_far v);
        after = let a = g.after in omega arith;
      }
        where
          next : flat_map f (count_from first (row + 1 - first)) ≡ flat_map f (count_from first (row - first)) ++ f row
          next =
              let a = g.after in
              let n : row + 1 - first ≡ suc (row - first) = omega arith in
              let m : first + (row - first) ≡ row = omega arith in
              ap (λ (k : ℕ). flat_map f (count_from first k)) n ∙ flat-snoc f first (row - first) ∙ ap (λ (k : ℕ). flat_map f (count_from first (row - first)) ++ f k) m

      -- a row that leads nowhere
      pub going-none : f row ≡ [] → Going f first s (row + 1) t
      going-none e = going-row (subst (λ (l : List ℕ). Visits succ gate act t l t) (sym e) (none-visited t))

      -- a row that leads to m, which is visited
      pub going-found : {u : St A} {m : ℕ} → f row ≡ m ∷ [] → Visits succ gate act t (m ∷ []) u → Going f first s (row + 1) u
      going-found {u} e v = going-row (subst (λ (l : List ℕ). Visits succ gate act t l u) (sym e) v)

      -- past the last row
      pub going_end : {end : ℕ} {xs : List ℕ} → row ≡ end → xs ≡ flat_map f (count_from first (end - first)) → Visits succ gate act s xs t
      going_end {end} {xs} e q = subst (λ (l : List ℕ). Visits succ gate act s l t) (sym (q ∙ ap (λ (k : ℕ). flat_map f (count_from first (k - first))) (sym e))) g.so_far
