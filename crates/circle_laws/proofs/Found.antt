-- What is found: each path once, and each is a ring of modules that the roots reach.
-- Assumes nothing.
use mathlib.Core.Path.{◌≡◌, refl, sym, ap, subst, ◌∙◌}
use mathlib.Core.Logic.{⊎_elim}
use mathlib.Core.Bool.{Bool, true, false, cond, ◌||◌, true≢false, false≢true}
use mathlib.Core.List.Memᴰ
use mathlib.Core.List.{List, [], ◌∷◌, ◌++◌, foldl, Memᴰ}
use Prim.Native.Nat.{ℕ, zero, suc}
use lib.Dec.{eqb}
use borrow.Author.Tests.{eqb-true}
use Rattle.lists.specs.Words.{elem, any, twice, Distinct}
use Rattle.lists.proofs.Laws.{both, mem-elem, any_append, distinct_append}
use Rattle.walk.specs.Walk.{snoc}
use Rattle.walk.specs.Reach.{here, step, Reach⁺, ReachAny}
use Rattle.walk.proofs.Orders.{reach-next}
use Rattle.circle_search.specs.Circles.{Search, same_list, from, path_to, keep_once, begin, meet, circles}
use Rattle.circle_search.proofs.Once.{same_refl, meet-cases, meet-grows}
use Rattle.circle_search.proofs.States.{same-eq}
use Rattle.circle_laws.specs.Rings.{Steps, Ring}

-- what keeping a path keeps is kept
module _ (succ : ℕ → List ℕ) (P : List (List ℕ) → Type 0) (keeps : (path : List ℕ) (paths : List (List ℕ)) → P paths → P (keep_once path paths)) where
  fold-keeps : (k : ℕ) → ((s : Search) (m : ℕ) → P s.paths → P (meet succ k s m).paths) → (s : Search) (xs : List ℕ) → P s.paths → P (foldl (meet succ k) s xs).paths
  fold-keeps k h s [] p = p
  fold-keeps k h s (x ∷ xs) p = fold-keeps k h (meet succ k s x) xs (h s x p)

  meet-keeps : (k : ℕ) (s : Search) (m : ℕ) → P s.paths → P (meet succ k s m).paths
  unfolding meet
  meet-keeps zero s m p = p
  meet-keeps (suc k) s m p =
      meet-cases succ (λ (t : Search). P t.paths) k s m (λ e. p) (λ e b. keeps (path_to m s.begun) s.paths p) (λ e b. fold-keeps k (meet-keeps k) (begin m s) (succ m) p)

  pub meets-keep : (k : ℕ) (s : Search) (xs : List ℕ) → P s.paths → P (foldl (meet succ k) s xs).paths
  meets-keep k = fold-keeps k (meet-keeps k)

-- a new path leaves none twice
new-once : (path : List ℕ) (paths : List (List ℕ)) → any (same_list path) paths ≡ false → twice same_list paths ≡ false → twice same_list (paths ++ (path ∷ [])) ≡ false
new-once path [] e t = refl
new-once path (x ∷ xs) e t =
    ⊎_elim (λ q. absurd (true≢false (rw q at t)))
    (λ q.
    let apart : same_list x path ≡ false = ⊎_elim (λ z. absurd (true≢false (sym (ap (λ (y : List ℕ). cond (same_list path y) true (any (same_list path) xs)) (same-eq x path z) ∙ ap (λ (b : Bool). cond b true (any (same_list path) xs)) (same_refl path)) ∙ e))) (λ z. z) (both (same_list x path)) in
    let none : any (same_list x) (xs ++ (path ∷ [])) ≡ false = any_append (same_list x) xs (path ∷ []) ∙ ap (λ (b : Bool). b || cond (same_list x path) true false) q ∙ ap (λ (b : Bool). cond b true false) apart in
    ap (λ (b : Bool). cond b true (twice same_list (xs ++ (path ∷ [])))) none ∙ new-once path xs (later (same_list path x) e) (rw q at t))
    (both (any (same_list x) xs))
  where
    later : (b : Bool) → cond b true (any (same_list path) xs) ≡ false → any (same_list path) xs ≡ false
    later true z = absurd (true≢false z)
    later false z = z

kept-once : (path : List ℕ) (paths : List (List ℕ)) → twice same_list paths ≡ false → twice same_list (keep_once path paths) ≡ false
kept-once path paths t = ⊎_elim (λ e. rw e t) (λ e. rw e (new-once path paths e t)) (both (any (same_list path) paths))

pub circles-once : (succ : ℕ → List ℕ) (n : ℕ) (roots : List ℕ) → twice same_list (circles succ n roots) ≡ false
unfolding circles
circles-once succ n roots = meets-keep succ (λ (ps : List (List ℕ)). twice same_list ps ≡ false) kept-once (suc n) (record { begun = []; numbered = []; paths = [] }) roots refl

module _ (succ : ℕ → List ℕ) (roots : List ℕ) where
  steps-more : (l : List ℕ) (m y : ℕ) → Steps succ (snoc l m) → Memᴰ y (succ m) → Steps succ (snoc (snoc l m) y)
  unfolding Steps
  steps-more [] m y s h = (h, tt)
  steps-more (x ∷ []) m y s h = (s.0, (h, tt))
  steps-more (x ∷ z ∷ l) m y s h = (s.0, steps-more (z ∷ l) m y s.1 h)

  steps-from : (m : ℕ) (l : List ℕ) → elem m l ≡ true → Steps succ (snoc l m) → Steps succ (snoc (from m l) m)
  unfolding Steps
  steps-from m [] e s = absurd (false≢true e)
  steps-from m (x ∷ []) e s = ⊎_elim (λ q. rw q s) (λ q. absurd (false≢true (rw q at e))) (both (eqb m x))
  steps-from m (x ∷ y ∷ l) e s = ⊎_elim (λ q. rw q s) (λ q. rw q (steps-from m (y ∷ l) (rw q at e) s.1)) (both (eqb m x))

  distinct_from : (m : ℕ) (l : List ℕ) → Distinct l → Distinct (from m l)
  unfolding Distinct
  distinct_from m [] d = d
  distinct_from m (x ∷ l) d = ⊎_elim (λ q. rw q d) (λ q. rw q (distinct_from m l d.1)) (both (eqb m x))

  from-head : (m : ℕ) (l : List ℕ) → elem m l ≡ true → (rest : List ℕ) × (from m l ≡ m ∷ rest)
  from-head m [] e = absurd (false≢true e)
  from-head m (x ∷ l) e = ⊎_elim (λ q. (l, ap (λ (b : Bool). cond b (x ∷ l) (from m l)) q ∙ ap (λ (v : ℕ). v ∷ l) (sym (eqb-true m x q)))) (λ q. let r = from-head m l (rw q at e) in (r.0, ap (λ (b : Bool). cond b (x ∷ l) (from m l)) q ∙ r.1)) (both (eqb m x))

  -- a path is a ring from a module that the roots reach
  pub record Good (path : List ℕ) : Type 0 where
    pub ring : Ring succ path
    pub reached : ReachAny succ roots ring.first

  abbrev AllGood : List (List ℕ) → Type 0
  AllGood paths = (p : List ℕ) → Memᴰ p paths → Good p

  -- the begun modules follow each other and then m, are all different, and are reached
  record Chain (begun : List ℕ) (m : ℕ) : Type 0 where
    follows : Steps succ (snoc begun m)
    different : Distinct begun
    reached : ReachAny succ roots m

  good-path : (begun : List ℕ) (m : ℕ) → elem m begun ≡ true → Chain begun m → Good (path_to m begun)
  good-path begun m e c =
      let h = from-head m begun e in
      record {
        ring = record {
          first = m;
          others = h.0;
          closes = ap (λ (l : List ℕ). snoc l m) h.1;
          different = subst Distinct h.1 (distinct_from m begun c.different);
          follows = steps-from m begun e c.follows;
        };
        reached = c.reached;
      }

  kept-good : (path : List ℕ) (paths : List (List ℕ)) → Good path → AllGood paths → AllGood (keep_once path paths)
  kept-good path paths g a p h =
      ⊎_elim (λ e. a p (subst (Memᴰ p) (ap (λ (b : Bool). cond b paths (paths ++ (path ∷ []))) e) h))
      (λ e.
      ⊎_elim (λ c. a p c) (λ c. subst Good (sym (Memᴰ.eq_of_singleton c)) g)
      (Memᴰ.append_cases paths (subst (Memᴰ p) (ap (λ (b : Bool). cond b paths (paths ++ (path ∷ []))) e) h)))
      (both (any (same_list path) paths))

  any-on : {m y : ℕ} → ReachAny succ roots m → Memᴰ y (succ m) → ReachAny succ roots y
  unfolding ReachAny
  any-on r h = (r.0, r.1, reach-next succ r.2 h)

  distinct_more : (l : List ℕ) (m : ℕ) → Distinct l → elem m l ≡ false → Distinct (snoc l m)
  unfolding Distinct
  distinct_more l m d e =
      distinct_append l (m ∷ []) d ((λ h. Memᴰ.not-nil h), tt) (λ x i j. true≢false (sym (mem-elem m l (subst (λ (v : ℕ). Memᴰ v l) (Memᴰ.eq_of_singleton j) i)) ∙ e))

  chain_more : (begun : List ℕ) (m y : ℕ) → elem m begun ≡ false → Chain begun m → Memᴰ y (succ m) → Chain (snoc begun m) y
  chain_more begun m y e c h = record { follows = steps-more begun m y c.follows h; different = distinct_more begun m c.different e; reached = any-on c.reached h }

  fold-good : (k : ℕ) → ((s : Search) (m : ℕ) → Chain s.begun m → AllGood s.paths → AllGood (meet succ k s m).paths)
      → (s : Search) (xs : List ℕ) → ((y : ℕ) → Memᴰ y xs → Chain s.begun y) → AllGood s.paths → AllGood (foldl (meet succ k) s xs).paths
  fold-good k h s [] c a = a
  fold-good k h s (x ∷ xs) c a =
      fold-good k h (meet succ k s x) xs (λ y i. subst (λ (b : List ℕ). Chain b y) (sym (meet-grows succ k s x).stack) (c y (Memᴰ.tail i))) (h s x (c x (Memᴰ.head refl)) a)

  meet-good : (k : ℕ) (s : Search) (m : ℕ) → Chain s.begun m → AllGood s.paths → AllGood (meet succ k s m).paths
  unfolding meet
  meet-good zero s m c a = a
  meet-good (suc k) s m c a =
      meet-cases succ (λ (t : Search). AllGood t.paths) k s m (λ e. a) (λ e b. kept-good (path_to m s.begun) s.paths (good-path s.begun m b c) a)
      (λ e b. fold-good k (meet-good k) (begin m s) (succ m) (λ y h. chain_more s.begun m y b c h) a)

  pub circles-good : (n : ℕ) (p : List ℕ) → Memᴰ p (circles succ n roots) → Good p
  unfolding circles Steps Distinct ReachAny
  circles-good n =
      fold-good (suc n) (meet-good (suc n)) (record { begun = []; numbered = []; paths = [] }) roots (λ y h. record { follows = tt; different = tt; reached = (y, h, here refl) }) (λ p h. absurd (Memᴰ.not-nil h))

  -- a ring leads back
  around : (x first : ℕ) (others : List ℕ) → Steps succ (x ∷ snoc others first) → Reach⁺ succ x first
  unfolding Steps Reach⁺
  around x first [] s = (first, s.0, here refl)
  around x first (y ∷ others) s = let r = around y first others s.1 in (y, s.0, step r.1 r.2)

  pub good-returns : (p : List ℕ) → Good p → (m : ℕ) × ReachAny succ roots m × Reach⁺ succ m m
  good-returns p g = let r = g.ring in (r.first, g.reached, around r.first r.first r.others (subst (Steps succ) r.closes r.follows))

  pub none_found : (n : ℕ) → ((m : ℕ) → ReachAny succ roots m → Reach⁺ succ m m → ⊥) → circles succ n roots ≡ []
  none_found n h = go (circles succ n roots) (circles-good n)
    where
      go : (l : List (List ℕ)) → ((p : List ℕ) → Memᴰ p l → Good p) → l ≡ []
      go [] g = refl
      go (p ∷ l) g = let r = good-returns p (g p (Memᴰ.head refl)) in absurd (h r.0 r.1 r.2)
