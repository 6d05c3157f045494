-- The search numbers modules as the post-order walk lists them; and where no path is found, each after all its successors.
-- Assumes nothing.
use mathlib.Core.Path.{◌≡◌, refl, sym, ap, subst, ◌∙◌}
use mathlib.Core.Logic.{⊎_elim}
use mathlib.Core.Bool.{Bool, true, false, cond, not, true≢false}
use mathlib.Core.List.Memᴰ
use mathlib.Core.List.{List, [], ◌∷◌, ◌++◌, foldl, Memᴰ}
use Prim.Native.Nat.{ℕ, zero, suc, ◌<◌}
use native.Mathlib.Nat.{not-suc-le-zero}
use native.Mathlib.Decide.{ℕ_discrete}
use native.Mathlib.Omega.{arith}
use lib.ListN.{length, get_or, set, length-append}
use lib.Seq.{get_or-set_other}
use Rattle.lists.specs.Words.{is_zero, zeros, elem, any}
use Rattle.lists.proofs.Laws.{both, elem_mem}
use Rattle.walk.specs.Walk.{St, fresh, enter, leave, visit, snoc, unmet, everywhere, post_order}
use Rattle.walk.specs.Reach.{Reach, here, step, Reach⁺, ReachAny}
use Rattle.walk.proofs.Visits.{set_self, set-zeros, unmet-fresh, visit-met, visit-enters, visit-grown, walk-fuel, zeros-replicate}
use Rattle.walk.proofs.Orders.{reach-all}
use Rattle.circle_search.specs.Circles.{Search, same_list, front, path_to, keep_once, begin, number, meet, circles}
use Rattle.circle_search.proofs.Searches.{front-snoc}
use Rattle.circle_search.proofs.Once.{meet-numbered, meet-begun, meet-new, Grows, meets-grow, elem-last}
use Rattle.circle_search.proofs.States.{other}

-- m is neither begun nor numbered
abbrev new_in : Search → ℕ → Bool
new_in s x = cond (elem x s.numbered) false (not (elem x s.begun))

abbrev S : Type 0
S = St (List ℕ)

module _ (succ : ℕ → List ℕ) (n : ℕ) (inside : (m y : ℕ) → Memᴰ y (succ m) → y < n) where
  abbrev go : ℕ → S → ℕ → S
  go = visit succ everywhere snoc

  -- the walk lists what the search has numbered, and has met what it has begun
  record Same (s : Search) (t : S) : Type 0 where
    lists : t.made ≡ s.numbered
    met : (x : ℕ) → x < n → fresh t x ≡ new_in s x

  same-enter : (s : Search) (t : S) (m : ℕ) → Same s t → elem m s.numbered ≡ false → Same (begin m s) (enter m t)
  same-enter s t m r e = record { lists = r.lists; met = λ x l. at x l (ℕ_discrete x m) }
    where
      at : (x : ℕ) → x < n → Dec (x ≡ m) → is_zero (get_or (set t.marks m 1) x 1) ≡ new_in (begin m s) x
      at x l (yes q) =
          ap (λ (v : ℕ). is_zero (get_or (set t.marks m 1) v 1)) q ∙ set_self t.marks m
          ∙ sym (ap (new_in (begin m s)) q ∙ ap (λ (b : Bool). cond b false (not (elem m (snoc s.begun m)))) e ∙ ap not (elem-last s.begun m))
      at x l (no q) = ap is_zero (get_or-set_other t.marks m x 1 1 q) ∙ r.met x l ∙ sym (ap (λ (b : Bool). cond (elem x s.numbered) false (not b)) (other x m s.begun q))

  same-leave : (b₀ : List ℕ) (s : Search) (t : S) (m : ℕ) → Same s t → s.begun ≡ snoc b₀ m → Same (number m s) (leave snoc m t)
  same-leave b₀ s t m r e = record { lists = ap (λ (l : List ℕ). snoc l m) r.lists; met = λ x l. r.met x l ∙ at x (ℕ_discrete x m) }
    where
      begun-in : elem m s.begun ≡ true
      begun-in = ap (elem m) e ∙ elem-last b₀ m

      off : (b : Bool) → cond b false (not (elem m s.begun)) ≡ false
      off true = refl
      off false = ap not begun-in

      at : (x : ℕ) → Dec (x ≡ m) → new_in s x ≡ new_in (number m s) x
      at x (yes q) = ap (new_in s) q ∙ off (elem m s.numbered) ∙ sym (ap (new_in (number m s)) q ∙ ap (λ (b : Bool). cond b false (not (elem m (front s.begun)))) (elem-last s.numbered m))
      at x (no q) =
          sym (ap (λ (b : Bool). cond b false (not (elem x (front s.begun)))) (other x m s.numbered q)
          ∙ ap (λ (b : Bool). cond (elem x s.numbered) false (not b)) (ap (λ (b : List ℕ). elem x (front b)) e ∙ ap (elem x) (front-snoc b₀ m) ∙ sym (other x m b₀ q) ∙ ap (elem x) (sym e)))

  fold_same : (k : ℕ) → ((s : Search) (t : S) (m : ℕ) → Same s t → m < n → Same (meet succ k s m) (go k t m))
      → (s : Search) (t : S) (xs : List ℕ) → Same s t → ((y : ℕ) → Memᴰ y xs → y < n) → Same (foldl (meet succ k) s xs) (foldl (go k) t xs)
  fold_same k h s t [] r l = r
  fold_same k h s t (x ∷ xs) r l = fold_same k h (meet succ k s x) (go k t x) xs (h s t x r (l x (Memᴰ.head refl))) (λ y i. l y (Memᴰ.tail i))

  not_new : (s : Search) (t : S) (m : ℕ) → Same s t → m < n → new_in s m ≡ false → fresh t m ≡ false
  not_new s t m r l e = r.met m l ∙ e

  is-new : (s : Search) (t : S) (m : ℕ) → Same s t → m < n → elem m s.numbered ≡ false → elem m s.begun ≡ false → fresh t m ≡ true
  is-new s t m r l e b = r.met m l ∙ ap (λ (c : Bool). cond c false (not (elem m s.begun))) e ∙ ap not b

  old-begun : (s : Search) (m : ℕ) → elem m s.numbered ≡ false → elem m s.begun ≡ true → new_in s m ≡ false
  old-begun s m e b = ap (λ (c : Bool). cond c false (not (elem m s.begun))) e ∙ ap not b

  meet-same : (k : ℕ) (s : Search) (t : S) (m : ℕ) → Same s t → m < n → Same (meet succ k s m) (go k t m)
  unfolding meet visit
  meet-same zero s t m r l = r
  meet-same (suc k) s t m r l =
      ⊎_elim
      (λ e. rw (meet-numbered succ (suc k) s m e, visit-met succ everywhere snoc (suc k) t m (not_new s t m r l (ap (λ (c : Bool). cond c false (not (elem m s.begun))) e))) r)
      (λ e.
      ⊎_elim
      (λ b. rw (meet-begun succ k s m e b, visit-met succ everywhere snoc (suc k) t m (not_new s t m r l (old-begun s m e b))) (record { lists = r.lists; met = r.met }))
      (λ b.
      rw (meet-new succ k s m e b, visit-enters succ everywhere snoc k t m refl (is-new s t m r l e b))
      (same-leave s.begun (foldl (meet succ k) (begin m s) (succ m)) (foldl (go k) (enter m t) (succ m)) m
      (fold_same k (meet-same k) (begin m s) (enter m t) (succ m) (same-enter s t m r e) (inside m)) (meets-grow succ k (begin m s) (succ m)).stack))
      (both (elem m s.begun)))
      (both (elem m s.numbered))

  abbrev start : Search
  start = record { begun = []; numbered = []; paths = [] }

  start-same : Same start (unmet n)
  start-same = record { lists = refl; met = λ x l. unmet-fresh n x l }

  module _ (roots : List ℕ) (within : (y : ℕ) → Memᴰ y roots → y < n) where
    pub numbered-order : (foldl (meet succ (suc n)) start roots).numbered ≡ post_order succ everywhere n roots
    unfolding post_order
    numbered-order =
        sym (fold_same (suc n) (meet-same (suc n)) start (unmet n) roots start-same within).lists
        ∙ ap (λ (t : S). t.made) (sym (walk-fuel succ everywhere snoc (suc n) (unmet n) roots (omega (arith, zeros-replicate n))))

  -- an order in which each stands after its successors
  data Topo : List ℕ → Type 0 where
    none : Topo []
    more : {l : List ℕ} {m : ℕ} → Topo l → ((y : ℕ) → Memᴰ y (succ m) → Memᴰ y l) → Topo (snoc l m)

  topo-closed : {l : List ℕ} → Topo l → (z y : ℕ) → Memᴰ z l → Memᴰ y (succ z) → Memᴰ y l
  topo-closed none z y h s = absurd (Memᴰ.not-nil h)
  topo-closed (more {l} {m} t f) z y h s =
      ⊎_elim (λ c. Memᴰ.append_left (m ∷ []) (topo-closed t z y c s)) (λ c. Memᴰ.append_left (m ∷ []) (f y (subst (λ (v : ℕ). Memᴰ y (succ v)) (Memᴰ.eq_of_singleton c) s))) (Memᴰ.append_cases l h)

  topo-reach : {l : List ℕ} → Topo l → {z y : ℕ} → Memᴰ z l → Reach succ z y → Memᴰ y l
  topo-reach {l} t h (here e) = subst (λ (v : ℕ). Memᴰ v l) (sym e) h
  topo-reach t {z} h (step {y = w} s p) = topo-reach t (topo-closed t z w h s) p

  -- none leads back to itself
  topo-apart : {l : List ℕ} → Topo l → (z : ℕ) → Memᴰ z l → Reach⁺ succ z z → ⊥
  unfolding Reach⁺
  topo-apart none z h r = Memᴰ.not-nil h
  topo-apart (more {l} {m} t f) z h r =
      ⊎_elim (λ c. topo-apart t z c r)
      (λ c.
      let q = Memᴰ.eq_of_singleton c in
      let back = topo-reach t (f r.0 (subst (λ (v : ℕ). Memᴰ r.0 (succ v)) q r.1)) r.2 in
      topo-apart t z back r)
      (Memᴰ.append_cases l h)

  -- paths that are none were none before
  none_before : {s t : Search} → Grows s t → t.paths ≡ [] → s.paths ≡ []
  none_before {s} {t} g e = at s.paths (λ h. g.finds (λ x. true) h)
    where
      at : (l : List (List ℕ)) → (any (λ x. true) l ≡ true → any (λ x. true) t.paths ≡ true) → l ≡ []
      at [] h = refl
      at (x ∷ l) h = absurd (true≢false (sym (h refl) ∙ ap (any (λ x. true)) e))

  none_kept : (path : List ℕ) (paths : List (List ℕ)) → keep_once path paths ≡ [] → ⊥
  none_kept path paths e =
      ⊎_elim (λ q. some (any (same_list path) paths) q paths refl (sym (ap (λ (b : Bool). cond b paths (paths ++ (path ∷ []))) q) ∙ e))
      (λ q. longer (sym (ap (λ (b : Bool). cond b paths (paths ++ (path ∷ []))) q) ∙ e))
      (both (any (same_list path) paths))
    where
      some : (b : Bool) → b ≡ true → (l : List (List ℕ)) → any (same_list path) l ≡ b → l ≡ [] → ⊥
      some b q l r z = true≢false (sym (r ∙ q) ∙ ap (any (same_list path)) z)

      longer : paths ++ (path ∷ []) ≡ [] → ⊥
      longer z = let l : length (paths ++ (path ∷ [])) ≡ 0 = ap length z in omega (arith, l, length-append paths (path ∷ []))

  record Ordered (s : Search) (xs : List ℕ) : Type 0 where
    topo : Topo s.numbered
    all : (y : ℕ) → Memᴰ y xs → elem y s.numbered ≡ true

  fold-topo : (k : ℕ) → ((s : Search) (t : S) (m : ℕ) → Same s t → m < n → zeros t.marks < k → (meet succ k s m).paths ≡ [] → Topo s.numbered → Ordered (meet succ k s m) (m ∷ []))
      → (s : Search) (t : S) (xs : List ℕ) → Same s t → ((y : ℕ) → Memᴰ y xs → y < n) → zeros t.marks < k → (foldl (meet succ k) s xs).paths ≡ [] → Topo s.numbered → Ordered (foldl (meet succ k) s xs) xs
  fold-topo k h s t [] r l z e o = record { topo = o; all = λ y i. absurd (Memᴰ.not-nil i) }
  fold-topo k h s t (x ∷ xs) r l z e o =
      let g = meets-grow succ k (meet succ k s x) xs in
      let a = h s t x r (l x (Memᴰ.head refl)) z (none_before g e) o in
      let b = fold-topo k h (meet succ k s x) (go k t x) xs (meet-same k s t x r (l x (Memᴰ.head refl))) (λ y i. l y (Memᴰ.tail i)) (let v = visit-grown succ everywhere snoc k t x in omega (arith, v.fewer)) e a.topo in
      record {
        topo = b.topo;
        all = λ y i. ⊎_elim (λ q. subst (λ (v : ℕ). elem v (foldl (meet succ k) (meet succ k s x) xs).numbered ≡ true) (sym q) (g.numbers x (a.all x (Memᴰ.head refl)))) (λ q. b.all y q) (Memᴰ.cases_cons i);
      }

  meet-topo : (k : ℕ) (s : Search) (t : S) (m : ℕ) → Same s t → m < n → zeros t.marks < k → (meet succ k s m).paths ≡ [] → Topo s.numbered → Ordered (meet succ k s m) (m ∷ [])
  meet-topo zero s t m r l z e o = absurd (not-suc-le-zero z)
  meet-topo (suc k) s t m r l z e o =
      ⊎_elim
      (λ q. subst (λ (u : Search). Ordered u (m ∷ [])) (sym (meet-numbered succ (suc k) s m q)) (record { topo = o; all = λ y i. subst (λ (v : ℕ). elem v s.numbered ≡ true) (sym (Memᴰ.eq_of_singleton i)) q }))
      (λ q.
      ⊎_elim
      (λ b. absurd (none_kept (path_to m s.begun) s.paths (ap (λ (u : Search). u.paths) (sym (meet-begun succ k s m q b)) ∙ e)))
      (λ b.
      let inner = foldl (meet succ k) (begin m s) (succ m) in
      let i = fold-topo k (meet-topo k) (begin m s) (enter m t) (succ m) (same-enter s t m r q) (inside m) (omega (arith, set-zeros t.marks m (is-new s t m r l q b))) (ap (λ (u : Search). u.paths) (sym (meet-new succ k s m q b)) ∙ e) o in
      subst (λ (u : Search). Ordered u (m ∷ [])) (sym (meet-new succ k s m q b))
      (record { topo = more i.topo (λ y h. elem_mem y inner.numbered (i.all y h)); all = λ y j. subst (λ (v : ℕ). elem v (snoc inner.numbered m) ≡ true) (sym (Memᴰ.eq_of_singleton j)) (elem-last inner.numbered m) }))
      (both (elem m s.begun)))
      (both (elem m s.numbered))

  module _ (roots : List ℕ) (within : (y : ℕ) → Memᴰ y roots → y < n) where
    pub none-returns : circles succ n roots ≡ [] → (m : ℕ) → ReachAny succ roots m → Reach⁺ succ m m → ⊥
    unfolding circles
    none-returns e m r h =
        let o = fold-topo (suc n) (meet-topo (suc n)) start (unmet n) roots start-same within (omega (arith, zeros-replicate n)) e none in
        topo-apart o.topo m (subst (Memᴰ m) (sym (numbered-order roots within)) (reach-all succ n (λ x y l s. inside x y s) roots within m r)) h
