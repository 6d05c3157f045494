-- Where no target repeats, the search by states finds the circles: no path is found twice, since a path is told by its last two modules.
-- Assumes nothing.
use mathlib.Core.Path.{◌≡◌, refl, sym, ap, subst, ◌∙◌}
use mathlib.Core.Logic.{◌⊎◌, inl, inr, ⊎_elim}
use mathlib.Core.Bool.{Bool, true, false, cond, true≢false, false≢true}
use mathlib.Core.List.Memᴰ
use mathlib.Core.List.{List, [], ◌∷◌, ◌++◌, foldl, foldl-append, Memᴰ}
use Prim.Native.Nat.{ℕ, zero, suc, ◌<◌}
use native.Mathlib.Decide.{ℕ_discrete}
use native.Mathlib.Omega.{arith}
use lib.ListN.{length, get_or, set, replicate, length-set, length-replicate, get_or-replicate}
use lib.Seq.{get_or-set_same, get_or-set_other}
use lib.Dec.{eqb}
use borrow.Author.Tests.{eq-eqb, ne_eqb, eqb-true}
use Rattle.lists.specs.Words.{elem, any, Distinct}
use Rattle.lists.proofs.Laws.{both, elem_mem, mem-elem, any-mem, any_append, or_left, and_parts}
use Rattle.walk.specs.Walk.{snoc}
use Rattle.walk.proofs.Visits.{fresh-zero, fresh-not, zeros-replicate}
use Rattle.circle_search.specs.Circles.{Search, same_list, from, front, path_to, keep_once, found, begin, number, meet, circles}
use Rattle.circle_search.specs.inner.Search.{Held, is_new, is_open, enter, leave, close, search, Searches}
use Rattle.circle_search.proofs.Searches.{front-snoc, search-new, search-open, search-done}
use Rattle.circle_search.proofs.Once.{meet-numbered, meet-begun, meet-new, meets-grow, meet-grows, Grows, elem-last}

-- the last of a list, and the last but one
abbrev pub last : List ℕ → ℕ
last [] = 0
last (x ∷ []) = x
last (x ∷ y ∷ l) = last (y ∷ l)

abbrev heel : List ℕ → ℕ
heel p = last (front p)

pub last_snoc : (l : List ℕ) (m : ℕ) → last (snoc l m) ≡ m
last_snoc [] m = refl
last_snoc (x ∷ []) m = refl
last_snoc (x ∷ y ∷ l) m = last_snoc (y ∷ l) m

last-in : (x : ℕ) (l : List ℕ) → Memᴰ (last (x ∷ l)) (x ∷ l)
last-in x [] = Memᴰ.head refl
last-in x (y ∷ l) = Memᴰ.tail (last-in y l)

last_mem : (m : ℕ) (l : List ℕ) → Memᴰ m l → Memᴰ (last l) l
last_mem m [] h = absurd (Memᴰ.not-nil h)
last_mem m (x ∷ l) h = last-in x l

from_last : (m : ℕ) (l : List ℕ) → elem m l ≡ true → last (from m l) ≡ last l
from_last m [] e = absurd (false≢true e)
from_last m (x ∷ []) e = ⊎_elim (λ q. rw q) (λ q. absurd (false≢true (rw q at e))) (both (eqb m x))
from_last m (x ∷ y ∷ l) e = ⊎_elim (λ q. rw q) (λ q. rw q (from_last m (y ∷ l) (rw q at e))) (both (eqb m x))

pub same-eq : (a b : List ℕ) → same_list a b ≡ true → a ≡ b
same-eq [] [] e = refl
same-eq [] (y ∷ b) e = absurd (false≢true e)
same-eq (x ∷ a) [] e = absurd (false≢true e)
same-eq (x ∷ a) (y ∷ b) e =
    let h = and_parts (eqb x y) (same_list a b) e in
    let p = eqb-true x y h.0 in
    let q = same-eq a b h.1 in
    cc

pub other : (x m : ℕ) (l : List ℕ) → (x ≡ m → ⊥) → elem x (snoc l m) ≡ elem x l
other x m [] n = ap (λ (b : Bool). cond b true false) (ne_eqb x m n)
other x m (y ∷ l) n = ap (λ (b : Bool). cond (eqb x y) true b) (other x m l n)

-- the state of a module in a search
abbrev state_of : Search → ℕ → ℕ
state_of s x = cond (elem x s.numbered) 2 (cond (elem x s.begun) 1 0)

abbrev Paths : Type 0
Paths = List (List ℕ)

-- one path more
abbrev pub add : Paths → List ℕ → Paths
add paths path = paths ++ (path ∷ [])

module _ (succ : ℕ → List ℕ) (n : ℕ) (inside : (m y : ℕ) → Memᴰ y (succ m) → y < n) (single : (m : ℕ) → Distinct (succ m)) where
  -- the states are those of the search, and the begun ones and the paths are the same
  record Same (s : Search) (t : Held Paths) : Type 0 where
    len : length t.states ≡ n
    states : (x : ℕ) → x < n → get_or t.states x 0 ≡ state_of s x
    stack : t.begun ≡ s.begun
    paths : t.made ≡ s.paths

  -- each path was found at a module that is begun or has a number
  abbrev Known : Search → Type 0
  Known s = (p : List ℕ) → Memᴰ p s.paths → (elem (heel p) s.begun ≡ true) ⊎ (elem (heel p) s.numbered ≡ true)

  -- no path from the last begun module to m was found
  abbrev Free : Search → ℕ → Type 0
  Free s m = elem m s.begun ≡ true → (p : List ℕ) → Memᴰ p s.paths → heel p ≡ last s.begun → last p ≡ m → ⊥

  -- a path of t was there in s, or was found at a module that was not begun then, or at the last begun one, by meeting one of xs
  abbrev Adds : Search → List ℕ → Search → Type 0
  Adds s xs t = (p : List ℕ) → Memᴰ p t.paths
      → Memᴰ p s.paths ⊎ ((elem (heel p) s.begun ≡ false) × (elem (heel p) s.numbered ≡ false)) ⊎ ((heel p ≡ last s.begun) × Memᴰ (last p) xs)

  record After (s : Search) (xs : List ℕ) (s' : Search) (t' : Held Paths) : Type 0 where
    same : Same s' t'
    known : Known s'
    adds : Adds s xs s'

  after_none : (s : Search) (xs : List ℕ) (t : Held Paths) → Same s t → Known s → After s xs s t
  after_none s xs t r i = record { same = r; known = i; adds = λ p h. inl h }

  numbers-back : {s s₁ : Search} → Grows s s₁ → (v : ℕ) → elem v s₁.numbered ≡ false → elem v s.numbered ≡ false
  numbers-back {s} g v z = ⊎_elim (λ q. absurd (true≢false (sym (g.numbers v q) ∙ z))) (λ q. q) (both (elem v s.numbered))

  -- after one meeting and then others
  after_then : {s s₁ s₂ : Search} {t₁ t₂ : Held Paths} {x : ℕ} {xs : List ℕ} → Grows s s₁ → After s (x ∷ []) s₁ t₁ → After s₁ xs s₂ t₂ → After s (x ∷ xs) s₂ t₂
  after_then {s} {s₁} {s₂} {x = x} {xs = xs} g a b = record {
    same = b.same;
    known = b.known;
    adds = λ p j.
        ⊎_elim
        (λ c.
        ⊎_elim (λ z. inl z) (λ z. inr (⊎_elim (λ u. inl u) (λ u. inr (u.0, Memᴰ.head (Memᴰ.eq_of_singleton u.1))) z)) (a.adds p c))
        (λ c.
        inr
        (⊎_elim (λ u. inl (ap (elem (heel p)) (sym g.stack) ∙ u.0, numbers-back g (heel p) u.1))
        (λ u. inr (u.0 ∙ ap last g.stack, Memᴰ.tail u.1)) c))
        (b.adds p j);
  }

  -- another target is still free
  free-then : {s s₁ : Search} {t₁ : Held Paths} {x : ℕ} (y : ℕ) → Grows s s₁ → After s (x ∷ []) s₁ t₁ → (y ≡ x → ⊥) → Free s y → Free s₁ y
  free-then {s} {s₁} {x = x} y g a d f e p q u w =
      let e₀ : elem y s.begun ≡ true = ap (elem y) (sym g.stack) ∙ e in
      let u₀ : heel p ≡ last s.begun = u ∙ ap last g.stack in
      ⊎_elim (λ c. f e₀ p c u₀ w)
      (λ c.
      ⊎_elim
      (λ z. true≢false (sym (mem-elem (heel p) s.begun (subst (λ (v : ℕ). Memᴰ v s.begun) (sym u₀) (last_mem y s.begun (elem_mem y s.begun e₀)))) ∙ z.0))
      (λ z. d (sym w ∙ Memᴰ.eq_of_singleton z.1)) c)
      (a.adds p q)

  fold-after : (k : ℕ) → ((s : Search) (t : Held Paths) (m : ℕ) → Same s t → Known s → m < n → Free s m → After s (m ∷ []) (meet succ k s m) (search succ add k t m))
      → (s : Search) (t : Held Paths) (xs : List ℕ) → Same s t → Known s → ((y : ℕ) → Memᴰ y xs → y < n) → ((y : ℕ) → Memᴰ y xs → Free s y) → Distinct xs
      → After s xs (foldl (meet succ k) s xs) (foldl (search succ add k) t xs)
  unfolding Distinct
  fold-after k h s t [] r i l f d = after_none s [] t r i
  fold-after k h s t (x ∷ xs) r i l f d =
      let a = h s t x r i (l x (Memᴰ.head refl)) (f x (Memᴰ.head refl)) in
      let g = meet-grows succ k s x in
      after_then g a
      (fold-after k h (meet succ k s x) (search succ add k t x) xs a.same a.known (λ y j. l y (Memᴰ.tail j))
      (λ y j. free-then y g a (λ q. d.0 (subst (λ (v : ℕ). Memᴰ v xs) q j)) (f y (Memᴰ.tail j))) d.1)

  -- a module is begun
  same-enter : (s : Search) (t : Held Paths) (m : ℕ) → Same s t → m < n → elem m s.numbered ≡ false → Same (begin m s) (enter m t)
  same-enter s t m r l e = record {
    len = length-set t.states m 1 ∙ r.len;
    states = λ x h. go x h (ℕ_discrete x m);
    stack = ap (λ (b : List ℕ). snoc b m) r.stack;
    paths = r.paths;
  }
    where
      go : (x : ℕ) → x < n → Dec (x ≡ m) → get_or (set t.states m 1) x 0 ≡ state_of (begin m s) x
      go x h (yes q) = subst (λ (v : ℕ). get_or (set t.states m 1) v 0 ≡ state_of (begin m s) v) (sym q)
          (get_or-set_same t.states m 1 0 (omega (arith, l, r.len)) ∙ sym (ap (λ (b : Bool). cond b 2 (cond (elem m (snoc s.begun m)) 1 0)) e ∙ ap (λ (b : Bool). cond b 1 0) (elem-last s.begun m)))
      go x h (no q) = get_or-set_other t.states m x 1 0 q ∙ r.states x h ∙ sym (ap (λ (b : Bool). cond (elem x s.numbered) 2 (cond b 1 0)) (other x m s.begun q))

  -- a module takes its number
  same-leave : (b₀ : List ℕ) (s : Search) (t : Held Paths) (m : ℕ) → Same s t → m < n → s.begun ≡ snoc b₀ m → Same (number m s) (leave m t)
  same-leave b₀ s t m r l e = record {
    len = length-set t.states m 2 ∙ r.len;
    states = λ x h. go x h (ℕ_discrete x m);
    stack = ap front r.stack;
    paths = r.paths;
  }
    where
      front-other : (x : ℕ) → (x ≡ m → ⊥) → elem x (front s.begun) ≡ elem x s.begun
      front-other x q = ap (λ (b : List ℕ). elem x (front b)) e ∙ ap (elem x) (front-snoc b₀ m) ∙ sym (other x m b₀ q) ∙ ap (elem x) (sym e)

      go : (x : ℕ) → x < n → Dec (x ≡ m) → get_or (set t.states m 2) x 0 ≡ state_of (number m s) x
      go x h (yes q) = subst (λ (v : ℕ). get_or (set t.states m 2) v 0 ≡ state_of (number m s) v) (sym q)
          (get_or-set_same t.states m 2 0 (omega (arith, l, r.len)) ∙ sym (ap (λ (b : Bool). cond b 2 (cond (elem m (front s.begun)) 1 0)) (elem-last s.numbered m)))
      go x h (no q) =
          get_or-set_other t.states m x 2 0 q ∙ r.states x h
          ∙ sym (ap (λ (b : Bool). cond b 2 (cond (elem x (front s.begun)) 1 0)) (other x m s.numbered q) ∙ ap (λ (b : Bool). cond (elem x s.numbered) 2 (cond b 1 0)) (front-other x q))

  -- the path that is found is a new one
  fresh-path : (s : Search) (m : ℕ) → elem m s.begun ≡ true → Free s m → any (same_list (path_to m s.begun)) s.paths ≡ false
  fresh-path s m b f = ⊎_elim (λ e. absurd (go e)) (λ e. e) (both (any (same_list (path_to m s.begun)) s.paths))
    where
      heel-found : heel (path_to m s.begun) ≡ last s.begun
      heel-found = ap last (front-snoc (from m s.begun) m) ∙ from_last m s.begun b

      go : any (same_list (path_to m s.begun)) s.paths ≡ true → ⊥
      go e =
          let h = any-mem (same_list (path_to m s.begun)) s.paths e in
          let q = same-eq (path_to m s.begun) h.0 h.2 in
          f b h.0 h.1 (ap heel (sym q) ∙ heel-found) (ap last (sym q) ∙ last_snoc (from m s.begun) m)

  after-found : (s : Search) (t : Held Paths) (m : ℕ) → Same s t → Known s → elem m s.begun ≡ true → Free s m → After s (m ∷ []) (found m s) (close succ add m t)
  after-found s t m r i b f = record {
    same = record {
      len = r.len;
      states = r.states;
      stack = r.stack;
      paths = ap (λ (l : List ℕ). t.made ++ (path_to m l ∷ [])) r.stack ∙ ap (λ (ps : Paths). ps ++ (path ∷ [])) r.paths ∙ sym kept;
    };
    known = λ p h. ⊎_elim (λ c. i p c) (λ c. inl (subst (λ (q : List ℕ). elem (heel q) s.begun ≡ true) (sym c) top)) (parts p h);
    adds = λ p h. ⊎_elim (λ c. inl c) (λ c. inr (inr (ap heel c ∙ heel-found, Memᴰ.head (ap last c ∙ last_snoc (from m s.begun) m)))) (parts p h);
  }
    where
      path : List ℕ
      path = path_to m s.begun

      kept : keep_once (path_to m s.begun) s.paths ≡ s.paths ++ (path_to m s.begun ∷ [])
      kept = ap (λ (c : Bool). cond c s.paths (s.paths ++ (path_to m s.begun ∷ []))) (fresh-path s m b f)

      heel-found : heel (path_to m s.begun) ≡ last s.begun
      heel-found = ap last (front-snoc (from m s.begun) m) ∙ from_last m s.begun b

      top : elem (heel (path_to m s.begun)) s.begun ≡ true
      top = ap (λ (v : ℕ). elem v s.begun) heel-found ∙ mem-elem (last s.begun) s.begun (last_mem m s.begun (elem_mem m s.begun b))

      parts : (p : List ℕ) → Memᴰ p (keep_once (path_to m s.begun) s.paths) → Memᴰ p s.paths ⊎ (p ≡ path_to m s.begun)
      parts p h = ⊎_elim (λ c. inl c) (λ c. inr (Memᴰ.eq_of_singleton c)) (Memᴰ.append_cases s.paths (subst (Memᴰ p) kept h))

  -- after a module's targets are met, and it took its number
  after-number : (s : Search) (m : ℕ) (s₂ : Search) (t₂ : Held Paths) → m < n → Known s → elem m s.numbered ≡ false → elem m s.begun ≡ false → Grows (begin m s) s₂
      → After (begin m s) (succ m) s₂ t₂ → After s (m ∷ []) (number m s₂) (leave m t₂)
  after-number s m s₂ t₂ l i e b g a = record {
    same = same-leave s.begun s₂ t₂ m a.same l g.stack;
    known = λ p h. ⊎_elim (λ c. open-known p c (ℕ_discrete (heel p) m)) (λ c. inr (more (heel p) c)) (a.known p h);
    adds = λ p h.
        ⊎_elim (λ c. inl c)
        (λ c.
        inr
        (inl
        (⊎_elim (λ u. (outer (heel p) u.0, u.1))
        (λ u. let q = u.0 ∙ last_snoc s.begun m in (ap (λ (v : ℕ). elem v s.begun) q ∙ b, ap (λ (v : ℕ). elem v s.numbered) q ∙ e)) c)))
        (a.adds p h);
  }
    where
      more : (v : ℕ) → elem v s₂.numbered ≡ true → elem v (snoc s₂.numbered m) ≡ true
      more v c = any_append (eqb v) s₂.numbered (m ∷ []) ∙ or_left (elem v s₂.numbered) (elem v (m ∷ [])) c

      outer : (v : ℕ) → elem v (snoc s.begun m) ≡ false → elem v s.begun ≡ false
      outer v z = ⊎_elim (λ q. absurd (true≢false (sym (any_append (eqb v) s.begun (m ∷ []) ∙ or_left (elem v s.begun) (elem v (m ∷ [])) q) ∙ z))) (λ q. q) (both (elem v s.begun))

      open-known : (p : List ℕ) → elem (heel p) s₂.begun ≡ true → Dec (heel p ≡ m) → (elem (heel p) (front s₂.begun) ≡ true) ⊎ (elem (heel p) (snoc s₂.numbered m) ≡ true)
      open-known p c (yes q) = inr (ap (λ (v : ℕ). elem v (snoc s₂.numbered m)) q ∙ elem-last s₂.numbered m)
      open-known p c (no q) =
          inl (ap (λ (k : List ℕ). elem (heel p) (front k)) g.stack ∙ ap (elem (heel p)) (front-snoc s.begun m) ∙ sym (other (heel p) m s.begun q) ∙ ap (elem (heel p)) (sym g.stack) ∙ c)

  -- at its first row each target of a module is free
  begin-known : (s : Search) (m : ℕ) → Known s → Known (begin m s)
  begin-known s m i p h = ⊎_elim (λ c. inl (any_append (eqb (heel p)) s.begun (m ∷ []) ∙ or_left (elem (heel p) s.begun) (elem (heel p) (m ∷ [])) c)) (λ c. inr c) (i p h)

  begin-free : (s : Search) (m y : ℕ) → Known s → elem m s.numbered ≡ false → elem m s.begun ≡ false → Free (begin m s) y
  begin-free s m y i e b z p h u w =
      let q = u ∙ last_snoc s.begun m in
      ⊎_elim (λ c. true≢false (sym c ∙ ap (λ (v : ℕ). elem v s.begun) q ∙ b)) (λ c. true≢false (sym c ∙ ap (λ (v : ℕ). elem v s.numbered) q ∙ e)) (i p h)

  -- the three cases of a state
  two : (s : Search) (t : Held Paths) (m : ℕ) → Same s t → m < n → elem m s.numbered ≡ true → (is_new t m ≡ false) × (is_open t m ≡ false)
  two s t m r l e =
      let q : get_or t.states m 0 ≡ 2 = r.states m l ∙ ap (λ (b : Bool). cond b 2 (cond (elem m s.begun) 1 0)) e in
      (fresh-not t.states m (λ z. omega (arith, z, q)), ne_eqb (get_or t.states m 0) 1 (λ z. omega (arith, z, q)))

  one : (s : Search) (t : Held Paths) (m : ℕ) → Same s t → m < n → elem m s.numbered ≡ false → elem m s.begun ≡ true → (is_new t m ≡ false) × (is_open t m ≡ true)
  one s t m r l e b =
      let q : get_or t.states m 0 ≡ 1 = r.states m l ∙ ap (λ (c : Bool). cond c 2 (cond (elem m s.begun) 1 0)) e ∙ ap (λ (c : Bool). cond c 1 0) b in
      (fresh-not t.states m (λ z. omega (arith, z, q)), eq-eqb (get_or t.states m 0) 1 q)

  none : (s : Search) (t : Held Paths) (m : ℕ) → Same s t → m < n → elem m s.numbered ≡ false → elem m s.begun ≡ false → is_new t m ≡ true
  none s t m r l e b =
      fresh-zero t.states m (omega (arith, l, r.len)) (r.states m l ∙ ap (λ (c : Bool). cond c 2 (cond (elem m s.begun) 1 0)) e ∙ ap (λ (c : Bool). cond c 1 0) b)

  meet-after : (k : ℕ) (s : Search) (t : Held Paths) (m : ℕ) → Same s t → Known s → m < n → Free s m → After s (m ∷ []) (meet succ k s m) (search succ add k t m)
  unfolding meet search
  meet-after zero s t m r i l f = after_none s (m ∷ []) t r i
  meet-after (suc k) s t m r i l f =
      ⊎_elim
      (λ e.
      let h = two s t m r l e in
      rw (meet-numbered succ (suc k) s m e, search-done succ add (suc k) t m h.0 h.1) (after_none s (m ∷ []) t r i))
      (λ e.
      ⊎_elim
      (λ b.
      let h = one s t m r l e b in
      rw (meet-begun succ k s m e b, search-open succ add k t m h.0 h.1) (after-found s t m r i b f))
      (λ b.
      rw (meet-new succ k s m e b, search-new succ add k t m (none s t m r l e b))
      (after-number s m (foldl (meet succ k) (begin m s) (succ m)) (foldl (search succ add k) (enter m t) (succ m)) l i e b (meets-grow succ k (begin m s) (succ m))
      (fold-after k (meet-after k) (begin m s) (enter m t) (succ m) (same-enter s t m r l e) (begin-known s m i) (inside m) (λ y j. begin-free s m y i e b) (single m))))
      (both (elem m s.begun)))
      (both (elem m s.numbered))

  -- the roots in turn: none is begun then
  roots-after : (k : ℕ) (s : Search) (t : Held Paths) (xs : List ℕ) → Same s t → Known s → s.begun ≡ [] → ((y : ℕ) → Memᴰ y xs → y < n)
      → Same (foldl (meet succ k) s xs) (foldl (search succ add k) t xs)
  roots-after k s t [] r i b l = r
  roots-after k s t (x ∷ xs) r i b l =
      let a = meet-after k s t x r i (l x (Memᴰ.head refl)) (λ e. absurd (false≢true (ap (elem x) (sym b) ∙ e))) in
      roots-after k (meet succ k s x) (search succ add k t x) xs a.same a.known ((meet-grows succ k s x).stack ∙ b) (λ y j. l y (Memᴰ.tail j))

  pub circles-found : (roots : List ℕ) → ((y : ℕ) → Memᴰ y roots → y < n)
      → (foldl (search succ add (suc n)) (record { states = replicate n 0; begun = []; made = [] }) roots).made ≡ circles succ n roots
  unfolding circles
  circles-found roots l =
      (roots-after (suc n) (record { begun = []; numbered = []; paths = [] }) (record { states = replicate n 0; begun = []; made = [] }) roots
      (record { len = length-replicate n 0; states = λ x h. get_or-replicate n x 0 0 h; stack = refl; paths = refl }) (λ p h. absurd (Memᴰ.not-nil h)) refl l).paths

-- any payload

module _ (succ : ℕ → List ℕ) {A : Type 0} (put : A → List ℕ → A) where
  abbrev made_of : A → Held Paths → Held A
  made_of a s = record { states = s.states; begun = s.begun; made = foldl put a s.made }

  fold-of : (a : A) (f : Held A → ℕ → Held A) (g : Held Paths → ℕ → Held Paths) → ((s : Held Paths) (m : ℕ) → f (made_of a s) m ≡ made_of a (g s m))
      → (s : Held Paths) (xs : List ℕ) → foldl f (made_of a s) xs ≡ made_of a (foldl g s xs)
  fold-of a f g h s [] = refl
  fold-of a f g h s (x ∷ xs) = ap (λ (t : Held A). foldl f t xs) (h s x) ∙ fold-of a f g h (g s x) xs

  search-of : (a : A) (k : ℕ) (s : Held Paths) (m : ℕ) → search succ put k (made_of a s) m ≡ made_of a (search succ add k s m)
  unfolding search
  search-of a zero s m = refl
  search-of a (suc k) s m =
      ⊎_elim
      (λ e.
      search-new succ put k (made_of a s) m e
      ∙ ap (leave m) (fold-of a (search succ put k) (search succ add k) (search-of a k) (enter m s) (succ m))
      ∙ sym (ap (made_of a) (search-new succ add k s m e)))
      (λ e.
      ⊎_elim
      (λ o.
      search-open succ put k (made_of a s) m e o
      ∙ sym (ap (made_of a) (search-open succ add k s m e o) ∙ ap (λ (x : A). record { states = s.states; begun = s.begun; made = x }) (foldl-append put a s.made (path_to m s.begun ∷ []))))
      (λ o. search-done succ put (suc k) (made_of a s) m e o ∙ sym (ap (made_of a) (search-done succ add (suc k) s m e o)))
      (both (is_open s m)))
      (both (is_new s m))

  -- what a search makes, from no module begun, is made of the circles in turn
  pub circles-made : (n : ℕ) → ((m y : ℕ) → Memᴰ y (succ m) → y < n) → ((m : ℕ) → Distinct (succ m)) → (roots : List ℕ) → ((y : ℕ) → Memᴰ y roots → y < n)
      → (a : A) {t : Held A} → Searches succ put (record { states = replicate n 0; begun = []; made = a }) roots t → t.made ≡ foldl put a (circles succ n roots)
  circles-made n inside single roots l a {t} v =
      ap (λ (u : Held A). u.made)
      (sym (v.same (suc n) (omega (arith, zeros-replicate n)))
      ∙ fold-of a (search succ put (suc n)) (search succ add (suc n)) (search-of a (suc n)) (record { states = replicate n 0; begun = []; made = [] }) roots)
      ∙ ap (foldl put a) (circles-found succ n inside single roots l)
