-- Meeting modules in turn, as a code's loop does: what is known of the state between two of them, and how a meeting is put together from those of the
-- successors.
-- Assumes nothing.
use mathlib.Core.Path.{◌≡◌, refl, sym, ap, subst, ◌∙◌}
use mathlib.Core.Bool.{true, false}
use mathlib.Core.Logic.{⊎_elim}
use mathlib.Core.List.{List, [], ◌∷◌, ◌++◌, foldl, foldl-append, flat_map}
use Prim.Native.Nat.{ℕ, zero, suc, ◌+◌, ◌-◌, ◌*◌, ◌≤◌, ◌<◌}
use native.Mathlib.Nat.{not-suc-le-zero, mul-suc, mul-le-mul_left}
use native.Mathlib.Omega.{arith}
use lib.ListN.{length, set, length-set, length-append}
use lib.Dec.{eqb}
use Rattle.lists.specs.Words.{zeros, count_from}
use Rattle.lists.proofs.Laws.{both}
use Rattle.lists.proofs.Maps.{flat-snoc}
use Rattle.walk.specs.Walk.{snoc}
use Rattle.walk.proofs.Visits.{set-zeros}
use Rattle.circle_search.specs.Circles.{front, from, path_to}
use Rattle.circle_search.specs.inner.Search.{Held, is_new, is_open, enter, leave, close, search, Searches}

-- all but the last of one more
pub front-snoc : (l : List ℕ) (m : ℕ) → front (snoc l m) ≡ l
front-snoc [] m = refl
front-snoc (x ∷ []) m = refl
front-snoc (x ∷ y ∷ l) m = ap (λ (k : List ℕ). x ∷ k) (front-snoc (y ∷ l) m)

-- a state that is not 0 leaves no more to begin
pub set-fewer : (xs : List ℕ) (m v : ℕ) → zeros (set xs m (suc v)) ≤ zeros xs
set-fewer [] m v = omega arith
set-fewer (zero ∷ xs) zero v = omega arith
set-fewer (suc x ∷ xs) zero v = omega arith
set-fewer (zero ∷ xs) (suc m) v = let h = set-fewer xs m v in omega arith
set-fewer (suc x ∷ xs) (suc m) v = set-fewer xs m v

from-length : (m : ℕ) (l : List ℕ) → length (from m l) ≤ length l
from-length m [] = omega arith
from-length m (x ∷ l) = ⊎_elim (λ e. rw e (omega arith)) (λ e. rw e (let h = from-length m l in omega arith)) (both (eqb m x))

-- a path has at most one module more than are begun
pub path-length : (m : ℕ) (l : List ℕ) → length (path_to m l) ≤ length l + 1
path-length m l = omega (arith, length-append (from m l) (m ∷ []), from-length m l)

module _ (succ : ℕ → List ℕ) {A : Type 0} (put : A → List ℕ → A) where
  -- the cases of a meeting
  pub search-new : (k : ℕ) (s : Held A) (m : ℕ) → is_new s m ≡ true → search succ put (suc k) s m ≡ leave m (foldl (search succ put k) (enter m s) (succ m))
  unfolding search
  search-new k s m e = rw (e, search)

  pub search-open : (k : ℕ) (s : Held A) (m : ℕ) → is_new s m ≡ false → is_open s m ≡ true → search succ put (suc k) s m ≡ close succ put m s
  unfolding search
  search-open k s m e o = rw (e, o, search)

  pub search-done : (k : ℕ) (s : Held A) (m : ℕ) → is_new s m ≡ false → is_open s m ≡ false → search succ put k s m ≡ s
  unfolding search
  search-done zero s m e o = refl
  search-done (suc k) s m e o = rw (e, o, search)

  -- what any part of a search keeps: as many states, no more to begin, and the same begun ones
  pub record Kept (s t : Held A) : Type 0 where
    pub len : length t.states ≡ length s.states
    pub fewer : zeros t.states ≤ zeros s.states
    pub stack : t.begun ≡ s.begun

  kept_refl : (s : Held A) → Kept s s
  kept_refl s = record { len = refl; fewer = omega arith; stack = refl }

  kept_trans : {s t u : Held A} → Kept s t → Kept t u → Kept s u
  kept_trans p q = record { len = q.len ∙ p.len; fewer = omega (arith, p.fewer, q.fewer); stack = q.stack ∙ p.stack }

  fold-kept : (f : Held A → ℕ → Held A) → ((s : Held A) (x : ℕ) → Kept s (f s x)) → (s : Held A) (xs : List ℕ) → Kept s (foldl f s xs)
  fold-kept f h s [] = kept_refl s
  fold-kept f h s (x ∷ xs) = kept_trans (h s x) (fold-kept f h (f s x) xs)

  pub search-kept : (k : ℕ) (s : Held A) (m : ℕ) → Kept s (search succ put k s m)
  unfolding search
  search-kept zero s m = kept_refl s
  search-kept (suc k) s m =
      ⊎_elim
      (λ e.
      let i = foldl (search succ put k) (enter m s) (succ m) in
      let r = fold-kept (search succ put k) (search-kept k) (enter m s) (succ m) in
      rw (search-new k s m e)
      (record {
        len = length-set i.states m 2 ∙ r.len ∙ length-set s.states m 1;
        fewer = omega (arith, set-fewer i.states m 1, r.fewer, set-fewer s.states m 0);
        stack = ap front r.stack ∙ front-snoc s.begun m;
      }))
      (λ e.
      ⊎_elim (λ o. rw (search-open k s m e o) (record { len = refl; fewer = omega arith; stack = refl })) (λ o. rw (search-done (suc k) s m e o) (kept_refl s)) (both (is_open s m)))
      (both (is_new s m))

  pub searches-kept : (k : ℕ) (s : Held A) (xs : List ℕ) → Kept s (foldl (search succ put k) s xs)
  searches-kept k = fold-kept (search succ put k) (search-kept k)

  -- meeting none, and the three cases of meeting one
  pub none-met : (s : Held A) → Searches succ put s [] s
  none-met s = record { same = λ k z. refl }

  pub done-met : (s : Held A) (m : ℕ) → is_new s m ≡ false → is_open s m ≡ false → Searches succ put s (m ∷ []) s
  done-met s m e o = record { same = λ k z. search-done k s m e o }

  pub open-met : (s : Held A) (m : ℕ) → is_new s m ≡ false → is_open s m ≡ true → Searches succ put s (m ∷ []) (close succ put m s)
  open-met s m e o = record { same = go }
    where
      go : (k : ℕ) → zeros s.states < k → search succ put k s m ≡ close succ put m s
      go zero z = absurd (not-suc-le-zero z)
      go (suc k) z = search-open k s m e o

  pub new-met : (s t : Held A) (m : ℕ) → is_new s m ≡ true → Searches succ put (enter m s) (succ m) t → Searches succ put s (m ∷ []) (leave m t)
  new-met s t m e v = record { same = go }
    where
      go : (k : ℕ) → zeros s.states < k → search succ put k s m ≡ leave m t
      go zero z = absurd (not-suc-le-zero z)
      go (suc k) z = search-new k s m e ∙ ap (leave m) (v.same k (omega (arith, set-zeros s.states m e)))

  module _ {s t : Held A} {xs : List ℕ} (v : Searches succ put s xs t) where
    pub met-kept : Kept s t
    met-kept = subst (λ (u : Held A). Kept s u) (v.same (suc (zeros s.states)) (omega arith)) (searches-kept (suc (zeros s.states)) s xs)

    pub met-then : {u : Held A} {ys : List ℕ} → Searches succ put t ys u → Searches succ put s (xs ++ ys) u
    met-then {u} {ys} w = record {
      same = λ k z.
          foldl-append (search succ put k) s xs ys
          ∙ ap (λ (r : Held A). foldl (search succ put k) r ys) (v.same k z)
          ∙ w.same k (let g = met-kept in omega (arith, g.fewer));
    }

  -- what is made of each path that is short enough is kept
  module _ (limit : ℕ) (P : A → Type 0) (keeps : (a : A) (path : List ℕ) → length path ≤ limit → P a → P (put a path)) where
    abbrev Short : Held A → Type 0
    Short s = length s.begun + zeros s.states < limit

    fold-keeps : (k : ℕ) → ((s : Held A) (x : ℕ) → Short s → P s.made → P (search succ put k s x).made) → (s : Held A) (xs : List ℕ) → Short s → P s.made → P (foldl (search succ put k) s xs).made
    fold-keeps k h s [] l p = p
    fold-keeps k h s (x ∷ xs) l p =
        let g = search-kept k s x in
        fold-keeps k h (search succ put k s x) xs (omega (arith, g.fewer, ap length g.stack)) (h s x l p)

    search-keeps : (k : ℕ) (s : Held A) (m : ℕ) → Short s → P s.made → P (search succ put k s m).made
    unfolding search
    search-keeps zero s m l p = p
    search-keeps (suc k) s m l p =
        ⊎_elim
        (λ e.
        rw (search-new k s m e)
        (fold-keeps k (search-keeps k) (enter m s) (succ m) (omega (arith, set-zeros s.states m e, length-append s.begun (m ∷ []))) p))
        (λ e.
        ⊎_elim (λ o. rw (search-open k s m e o) (keeps s.made (path_to m s.begun) (omega (arith, path-length m s.begun)) p)) (λ o. rw (search-done (suc k) s m e o) p) (both (is_open s m)))
        (both (is_new s m))

    pub met-keeps : {s t : Held A} {xs : List ℕ} → Searches succ put s xs t → Short s → P s.made → P t.made
    met-keeps {s} {t} {xs} v l p =
        let k = suc (zeros s.states) in
        subst (λ (u : Held A). P u.made) (v.same k (omega arith)) (fold-keeps k (search-keeps k) s xs l p)

  -- what grows by one with a path grows by no more than there are rows of those newly begun, and of what was met
  module _ (rows : ℕ) (few : (m : ℕ) → length (succ m) ≤ rows) (size : A → ℕ) (rises : (a : A) (path : List ℕ) → size (put a path) ≤ size a + 1) where
    abbrev bound : Held A → ℕ
    bound s = size s.made + rows * zeros s.states

    fold-room : (f : Held A → ℕ → Held A) → ((s : Held A) (x : ℕ) → bound (f s x) ≤ bound s + 1) → (s : Held A) (xs : List ℕ) → bound (foldl f s xs) ≤ bound s + length xs
    fold-room f h s [] = omega arith
    fold-room f h s (x ∷ xs) = omega (arith, h s x, fold-room f h (f s x) xs)

    search-room : (k : ℕ) (s : Held A) (m : ℕ) → bound (search succ put k s m) ≤ bound s + 1
    unfolding search
    search-room zero s m = omega arith
    search-room (suc k) s m =
        ⊎_elim
        (λ e.
        let i = foldl (search succ put k) (enter m s) (succ m) in
        rw (search-new k s m e)
        (go (size i.made) (size s.made) (length (succ m)) (set-zeros s.states m e) (fold-room (search succ put k) (search-room k) (enter m s) (succ m)) (set-fewer i.states m 1) (few m)))
        (λ e.
        ⊎_elim (λ o. rw (search-open k s m e o) (omega (arith, rises s.made (path_to m s.begun)))) (λ o. rw (search-done (suc k) s m e o) (omega arith)) (both (is_open s m)))
        (both (is_new s m))
      where
        go : (a b l : ℕ) {z' z w w' : ℕ} → suc z' ≡ z → a + rows * w ≤ b + rows * z' + l → w' ≤ w → l ≤ rows → a + rows * w' ≤ b + rows * z + 1
        go a b l {z'} {z} {w} {w'} e h f g =
            subst (λ (n : ℕ). a + rows * w' ≤ b + rows * n + 1) e (omega (arith, mul-suc rows z', h, mul-le-mul_left rows f, g))

    pub searches-room : (k : ℕ) (s : Held A) (xs : List ℕ) → size (foldl (search succ put k) s xs).made + rows * zeros (foldl (search succ put k) s xs).states ≤ size s.made + rows * zeros s.states + length xs
    searches-room k s xs = fold-room (search succ put k) (search-room k) s xs

    pub met-room : {s t : Held A} {xs : List ℕ} → Searches succ put s xs t → size t.made + rows * zeros t.states ≤ size s.made + rows * zeros s.states + length xs
    met-room {s} {t} {xs} v =
        let k = suc (zeros s.states) in
        subst (λ (u : Held A). bound u ≤ bound s + length xs) (v.same k (omega arith)) (fold-room (search succ put k) (search-room k) s xs)

  -- between the rows of a loop: from s where it begins, at row `first`, to t at `row`
  pub record Going (f : ℕ → List ℕ) (first : ℕ) (s : Held A) (row : ℕ) (t : Held A) : Type 0 where
    pub so_far : Searches succ put s (flat_map f (count_from first (row - first))) t
    pub after : first ≤ row

  module _ (f : ℕ → List ℕ) (first : ℕ) (s : Held A) where
    pub going_start : Going f first s first s
    unfolding flat_map
    going_start =
        let n : first - first ≡ 0 = omega arith in
        record { so_far = rw n (none-met s); after = omega arith }

    module _ {row : ℕ} {t : Held A} (g : Going f first s row t) where
      pub going-row : {u : Held A} → Searches succ put t (f row) u → Going f first s (row + 1) u
      going-row {u} v = record {
        so_far = subst (λ (l : List ℕ). Searches succ put s l u) (sym next) (met-then g.so_far v);
        after = let a = g.after in omega arith;
      }
        where
          next : flat_map f (count_from first (row + 1 - first)) ≡ flat_map f (count_from first (row - first)) ++ f row
          next =
              let a = g.after in
              let n : row + 1 - first ≡ suc (row - first) = omega arith in
              let m : first + (row - first) ≡ row = omega arith in
              ap (λ (k : ℕ). flat_map f (count_from first k)) n ∙ flat-snoc f first (row - first) ∙ ap (λ (k : ℕ). flat_map f (count_from first (row - first)) ++ f k) m

      -- a row that leads nowhere
      pub going-none : f row ≡ [] → Going f first s (row + 1) t
      going-none e = going-row (subst (λ (l : List ℕ). Searches succ put t l t) (sym e) (none-met t))

      -- a row that leads to m, which is met
      pub going-found : {u : Held A} {m : ℕ} → f row ≡ m ∷ [] → Searches succ put t (m ∷ []) u → Going f first s (row + 1) u
      going-found {u} e v = going-row (subst (λ (l : List ℕ). Searches succ put t l u) (sym e) v)

      -- past the last row
      pub going_end : {end : ℕ} {xs : List ℕ} → row ≡ end → xs ≡ flat_map f (count_from first (end - first)) → Searches succ put s xs t
      going_end {end} {xs} e q = subst (λ (l : List ℕ). Searches succ put s l t) (sym (q ∙ ap (λ (k : ℕ). flat_map f (count_from first (k - first))) (sym e))) g.so_far
