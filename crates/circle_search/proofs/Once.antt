-- Of targets that repeat, the first alone yields a path: a search over each module's targets once finds the same.
-- Assumes nothing.
use mathlib.Core.Path.{◌≡◌, refl, sym, ap, subst, ◌∙◌}
use mathlib.Core.Logic.{◌⊎◌, inl, inr, ⊎_elim}
use mathlib.Core.Bool.{Bool, true, false, cond, true≢false}
use mathlib.Core.List.Memᴰ
use mathlib.Core.List.{List, [], ◌∷◌, ◌++◌, foldl, Memᴰ}
use Prim.Native.Nat.{ℕ, zero, suc}
use borrow.Author.Tests.{eq-eqb}
use lib.Dec.{eqb}
use Rattle.lists.specs.Words.{elem, any}
use Rattle.lists.proofs.Laws.{both, elem_mem, mem-elem, any_append, or_left, or_right}
use Rattle.walk.specs.Walk.{snoc}
use Rattle.circle_search.specs.Circles.{Search, same_list, front, path_to, keep_once, found, begin, number, meet, circles}
use Rattle.circle_search.specs.inner.Search.{once_after, once}
use Rattle.circle_search.proofs.Searches.{front-snoc}

pub same_refl : (l : List ℕ) → same_list l l ≡ true
same_refl [] = refl
same_refl (x ∷ l) = rw (eq-eqb x x refl) (same_refl l)

module _ (succ : ℕ → List ℕ) where
  -- the cases of a meeting
  pub meet-numbered : (k : ℕ) (s : Search) (m : ℕ) → elem m s.numbered ≡ true → meet succ k s m ≡ s
  unfolding meet
  meet-numbered zero s m e = refl
  meet-numbered (suc k) s m e = rw (e, meet)

  pub meet-begun : (k : ℕ) (s : Search) (m : ℕ) → elem m s.numbered ≡ false → elem m s.begun ≡ true → meet succ (suc k) s m ≡ found m s
  unfolding meet
  meet-begun k s m e b = rw (e, b, meet)

  pub meet-new : (k : ℕ) (s : Search) (m : ℕ) → elem m s.numbered ≡ false → elem m s.begun ≡ false → meet succ (suc k) s m ≡ number m (foldl (meet succ k) (begin m s) (succ m))
  unfolding meet
  meet-new k s m e b = rw (e, b, meet)

  -- a property that each case of a meeting gives
  pub meet-cases : (P : Search → Type 0) (k : ℕ) (s : Search) (m : ℕ)
      → (elem m s.numbered ≡ true → P s) → (elem m s.numbered ≡ false → elem m s.begun ≡ true → P (found m s))
      → (elem m s.numbered ≡ false → elem m s.begun ≡ false → P (number m (foldl (meet succ k) (begin m s) (succ m)))) → P (meet succ (suc k) s m)
  meet-cases P k s m old shut new =
      ⊎_elim (λ e. subst P (sym (meet-numbered (suc k) s m e)) (old e))
      (λ e. ⊎_elim (λ b. subst P (sym (meet-begun k s m e b)) (shut e b)) (λ b. subst P (sym (meet-new k s m e b)) (new e b)) (both (elem m s.begun)))
      (both (elem m s.numbered))

-- what any part of a search keeps: the begun ones are the same, and numbers and paths only come to
pub record Grows (s t : Search) : Type 0 where
  pub stack : t.begun ≡ s.begun
  pub numbers : (x : ℕ) → elem x s.numbered ≡ true → elem x t.numbered ≡ true
  pub finds : (f : List ℕ → Bool) → any f s.paths ≡ true → any f t.paths ≡ true

pub grows-refl : (s : Search) → Grows s s
grows-refl s = record { stack = refl; numbers = λ x e. e; finds = λ f e. e }

pub grows-trans : {s t u : Search} → Grows s t → Grows t u → Grows s u
grows-trans p q = record { stack = q.stack ∙ p.stack; numbers = λ x e. q.numbers x (p.numbers x e); finds = λ f e. q.finds f (p.finds f e) }

elem-snoc : (x : ℕ) (l : List ℕ) (m : ℕ) → elem x l ≡ true → elem x (snoc l m) ≡ true
elem-snoc x l m e = any_append (eqb x) l (m ∷ []) ∙ or_left (elem x l) (elem x (m ∷ [])) e

pub elem-last : (l : List ℕ) (m : ℕ) → elem m (snoc l m) ≡ true
elem-last l m = any_append (eqb m) l (m ∷ []) ∙ or_right (elem m l) (elem m (m ∷ [])) (mem-elem m (m ∷ []) (Memᴰ.head refl))

kept-finds : (f : List ℕ → Bool) (path : List ℕ) (paths : List (List ℕ)) → any f paths ≡ true → any f (keep_once path paths) ≡ true
kept-finds f path paths e =
    ⊎_elim (λ q. rw q e) (λ q. rw q (any_append f paths (path ∷ []) ∙ or_left (any f paths) (any f (path ∷ [])) e)) (both (any (same_list path) paths))

-- once kept, a path is there
kept_there : (path : List ℕ) (paths : List (List ℕ)) → any (same_list path) (keep_once path paths) ≡ true
kept_there path paths =
    ⊎_elim (λ q. rw q q)
    (λ q. rw q (any_append (same_list path) paths (path ∷ []) ∙ or_right (any (same_list path) paths) (any (same_list path) (path ∷ [])) (rw (same_refl path))))
    (both (any (same_list path) paths))

module _ (succ : ℕ → List ℕ) where
  pub fold-grows : (f : Search → ℕ → Search) → ((s : Search) (x : ℕ) → Grows s (f s x)) → (s : Search) (xs : List ℕ) → Grows s (foldl f s xs)
  fold-grows f h s [] = grows-refl s
  fold-grows f h s (x ∷ xs) = grows-trans (h s x) (fold-grows f h (f s x) xs)

  pub meet-grows : (k : ℕ) (s : Search) (m : ℕ) → Grows s (meet succ k s m)
  unfolding meet
  meet-grows zero s m = grows-refl s
  meet-grows (suc k) s m =
      meet-cases succ (Grows s) k s m (λ e. grows-refl s)
      (λ e b. record { stack = refl; numbers = λ x h. h; finds = λ f h. kept-finds f (path_to m s.begun) s.paths h })
      (λ e b.
      let r = fold-grows (meet succ k) (meet-grows k) (begin m s) (succ m) in
      let t = foldl (meet succ k) (begin m s) (succ m) in
      record {
        stack = ap front r.stack ∙ front-snoc s.begun m;
        numbers = λ x h. elem-snoc x t.numbered m (r.numbers x h);
        finds = r.finds;
      })

  pub meets-grow : (k : ℕ) (s : Search) (xs : List ℕ) → Grows s (foldl (meet succ k) s xs)
  meets-grow k = fold-grows (meet succ k) (meet-grows k)

  -- y was met at this depth: it has a number, or the path that it closes was found
  abbrev Settled : Search → ℕ → Type 0
  Settled s y = (elem y s.numbered ≡ true) ⊎ ((elem y s.begun ≡ true) × (any (same_list (path_to y s.begun)) s.paths ≡ true))

  settled-stays : {s t : Search} (y : ℕ) → Grows s t → Settled s y → Settled t y
  settled-stays {s} {t} y g = ⊎_elim (λ e. inl (g.numbers y e))
      (λ h. inr (ap (elem y) g.stack ∙ h.0, ap (λ (b : List ℕ). any (same_list (path_to y b)) t.paths) g.stack ∙ g.finds (same_list (path_to y s.begun)) h.1))

  settled_same : (k : ℕ) (s : Search) (y : ℕ) → Settled s y → meet succ k s y ≡ s
  unfolding meet
  settled_same zero s y h = refl
  settled_same (suc k) s y h =
      ⊎_elim (λ e. meet-numbered succ (suc k) s y e)
      (λ e.
      ⊎_elim (λ q. absurd (true≢false (sym q ∙ e)))
      (λ q. meet-begun succ k s y e q.0 ∙ ap (λ (b : Bool). record { begun = s.begun; numbered = s.numbered; paths = cond b s.paths (s.paths ++ (path_to y s.begun ∷ [])) }) q.1)
      h)
      (both (elem y s.numbered))

  meet-settles : (k : ℕ) (s : Search) (y : ℕ) → Settled (meet succ (suc k) s y) y
  meet-settles k s y =
      meet-cases succ (λ (t : Search). Settled t y) k s y (λ e. inl e) (λ e b. inr (b, kept_there (path_to y s.begun) s.paths))
      (λ e b. inl (elem-last (foldl (meet succ k) (begin y s) (succ y)).numbered y))

  fold-zero : (s : Search) (xs : List ℕ) → foldl (meet succ zero) s xs ≡ s
  unfolding meet
  fold-zero s [] = refl
  fold-zero s (x ∷ xs) = fold-zero s xs

  fold-once : (k : ℕ) (s : Search) (seen xs : List ℕ) → ((y : ℕ) → Memᴰ y seen → Settled s y) → foldl (meet succ k) s (once_after seen xs) ≡ foldl (meet succ k) s xs
  fold-once zero s seen xs h = fold-zero s (once_after seen xs) ∙ sym (fold-zero s xs)
  fold-once (suc k) s seen [] h = refl
  fold-once (suc k) s seen (x ∷ xs) h =
      ⊎_elim
      (λ e. rw e (fold-once (suc k) s seen xs h ∙ ap (λ (t : Search). foldl (meet succ (suc k)) t xs) (sym (settled_same (suc k) s x (h x (elem_mem x seen e))))))
      (λ e.
      rw e
      (fold-once (suc k) (meet succ (suc k) s x) (x ∷ seen) xs
      (λ y i. ⊎_elim (λ q. subst (Settled (meet succ (suc k) s x)) (sym q) (meet-settles k s x)) (λ q. settled-stays y (meet-grows (suc k) s x) (h y q)) (Memᴰ.cases_cons i))))
      (both (elem x seen))

  fold_same : {f g : Search → ℕ → Search} → ((s : Search) (m : ℕ) → f s m ≡ g s m) → (s : Search) (xs : List ℕ) → foldl f s xs ≡ foldl g s xs
  fold_same h s [] = refl
  fold_same {f} {g} h s (x ∷ xs) = ap (λ (t : Search). foldl f t xs) (h s x) ∙ fold_same h (g s x) xs

  meet-once : (k : ℕ) (s : Search) (m : ℕ) → meet (λ (x : ℕ). once (succ x)) k s m ≡ meet succ k s m
  unfolding meet
  meet-once zero s m = refl
  meet-once (suc k) s m =
      ⊎_elim (λ e. meet-numbered (λ (x : ℕ). once (succ x)) (suc k) s m e ∙ sym (meet-numbered succ (suc k) s m e))
      (λ e.
      ⊎_elim (λ b. meet-begun (λ (x : ℕ). once (succ x)) k s m e b ∙ sym (meet-begun succ k s m e b))
      (λ b.
      meet-new (λ (x : ℕ). once (succ x)) k s m e b
      ∙ ap (number m) (fold_same (meet-once k) (begin m s) (once (succ m)) ∙ fold-once k (begin m s) [] (succ m) (λ y i. absurd (Memᴰ.not-nil i)))
      ∙ sym (meet-new succ k s m e b))
      (both (elem m s.begun)))
      (both (elem m s.numbered))

  pub circles-once : (n : ℕ) (roots : List ℕ) → circles (λ (x : ℕ). once (succ x)) n roots ≡ circles succ n roots
  unfolding circles
  circles-once n roots = ap (λ (t : Search). t.paths) (fold_same (meet-once (suc n)) (record { begun = []; numbered = []; paths = [] }) roots)
