-- A walk that goes on from what earlier roots met lists its root's own order without that.
-- Assumes nothing.
use mathlib.Core.Path.{◌≡◌, refl, sym, ap, subst, ◌∙◌}
use mathlib.Core.Logic.{⊎_elim}
use mathlib.Core.Bool.{Bool, true, false, not, cond, ◌&&◌, true≢false, false≢true}
use mathlib.Core.List.{List, [], ◌∷◌, ◌++◌, foldl, append-nil, append_assoc, Memᴰ}
use Prim.Native.Nat.{ℕ, zero, suc, ◌<◌}
use native.Mathlib.Omega.{arith}
use lib.ListN.{get_or, set}
use Rattle.lists.specs.Words.{is_zero, keep, elem}
use Rattle.lists.proofs.Laws.{both, not-true, keep_append, keep-none, mem-elem, elem_mem, iff-eq, and_parts, and-join, and-out}
use Rattle.walk.specs.Walk.{St, fresh, enter, visit, walk, snoc, unmet, everywhere, post_order}
use Rattle.walk.proofs.Visits.{visit-old, visit-new, visit-met, walk-append, walk-fuel, set-only, set_self, set_back, unmet-in, walk-grown, zeros-replicate}
use Rattle.walk.proofs.Orders.{visit-run, order-met, met-order, order-followed}

module _ (succ : ℕ → List ℕ) (D : ℕ → Bool) (in_d : (x y : ℕ) → D x ≡ true → Memᴰ y (succ x) → D y ≡ true) where
  abbrev S : Type 0
  S = St (List ℕ)

  abbrev go : ℕ → S → ℕ → S
  go = visit succ everywhere snoc

  -- a visit from within D meets only members of D
  fold-in : (k : ℕ) → ((b : S) (m : ℕ) → D m ≡ true → (x : ℕ) → fresh b x ≡ true → fresh (go k b m) x ≡ false → D x ≡ true)
      → (b : S) (xs : List ℕ) → ((y : ℕ) → Memᴰ y xs → D y ≡ true) → (x : ℕ) → fresh b x ≡ true → fresh (foldl (go k) b xs) x ≡ false → D x ≡ true
  fold-in k h b [] d x e f = absurd (true≢false (sym e ∙ f))
  fold-in k h b (y ∷ ys) d x e f =
      ⊎_elim (λ q. fold-in k h (go k b y) ys (λ z i. d z (Memᴰ.tail i)) x q f) (λ q. h b y (d y (Memᴰ.head refl)) x e q) (both (fresh (go k b y) x))

  visit-in : (k : ℕ) (b : S) (m : ℕ) → D m ≡ true → (x : ℕ) → fresh b x ≡ true → fresh (go k b m) x ≡ false → D x ≡ true
  unfolding visit
  visit-in zero b m d x e f = absurd (true≢false (sym e ∙ f))
  visit-in (suc k) b m d x e f =
      ⊎_elim
      (λ q.
      ⊎_elim (λ i. subst (λ (z : ℕ). D z ≡ true) (sym i) d)
      (λ i. fold-in k (visit-in k) (enter m b) (succ m) (λ y h. in_d m y d h) x i (sym (ap (λ (t : S). fresh t x) (visit-new succ everywhere snoc k b m q)) ∙ f))
      (set-only b.marks m x e))
      (λ q. absurd (true≢false (sym e ∙ sym (ap (λ (t : S). fresh t x) (visit-old succ everywhere snoc (suc k) b m q)) ∙ f)))
      (both (fresh b m))

  abbrev out : ℕ → Bool
  out x = not (D x)

  -- a has met D besides what b has, and lists after `pre` what b lists outside D
  record Pruned (pre : List ℕ) (a b : S) : Type 0 where
    same : (x : ℕ) → fresh a x ≡ (fresh b x && out x)
    lists : a.made ≡ pre ++ keep out b.made

  met-in : (p q d : Bool) → (p ≡ true → q ≡ false → d ≡ true) → (q ≡ true → p ≡ true) → (p && not d) ≡ (q && not d)
  met-in true true d f g = refl
  met-in true false d f g = ap not (f refl refl)
  met-in false true d f g = absurd (false≢true (g refl))
  met-in false false d f g = refl

  pruned-in : (pre : List ℕ) (k : ℕ) (a b : S) (m : ℕ) → D m ≡ true → Pruned pre a b → Pruned pre a (go k b m)
  pruned-in pre k a b m d r =
      let w = visit-run succ everywhere k b m in
      record {
        same = λ x. r.same x ∙ met-in (fresh b x) (fresh (go k b m) x) (D x) (visit-in k b m d x) (w.grown.grow x);
        lists =
            r.lists
            ∙ ap (λ (l : List ℕ). pre ++ l)
            (sym
            (ap (keep out) w.lists
            ∙ keep_append out b.made w.added
            ∙ ap (λ (l : List ℕ). keep out b.made ++ l) (keep-none out w.added (λ x h. ap not (visit-in k b m d x (w.new x h).0 (w.new x h).1)))
            ∙ append-nil (keep out b.made)));
      }

  pruned-fold : (pre : List ℕ) (k : ℕ) → ((a b : S) (m : ℕ) → Pruned pre a b → Pruned pre (go k a m) (go k b m)) → (a b : S) (xs : List ℕ) → Pruned pre a b → Pruned pre (foldl (go k) a xs) (foldl (go k) b xs)
  pruned-fold pre k h a b [] r = r
  pruned-fold pre k h a b (x ∷ xs) r = pruned-fold pre k h (go k a x) (go k b x) xs (h a b x r)

  and-out-true : (b : Bool) → (b && not false) ≡ b
  and-out-true true = refl
  and-out-true false = refl

  keep-last : (m : ℕ) (l : List ℕ) → D m ≡ false → keep out (snoc l m) ≡ snoc (keep out l) m
  keep-last m l e = keep_append out l (m ∷ []) ∙ ap (λ (d : Bool). keep out l ++ cond (not d) (m ∷ []) []) e

  set_same : (xs ys : List ℕ) (m x : ℕ) (d : Bool) → is_zero (get_or xs m 1) ≡ true → is_zero (get_or ys m 1) ≡ true → is_zero (get_or xs x 1) ≡ (is_zero (get_or ys x 1) && not d)
      → is_zero (get_or (set xs m 1) x 1) ≡ (is_zero (get_or (set ys m 1) x 1) && not d)
  set_same xs ys m x d fx fy e =
      iff-eq (is_zero (get_or (set xs m 1) x 1)) (is_zero (get_or (set ys m 1) x 1) && not d)
      (λ h.
      let q = and_parts (is_zero (get_or ys x 1)) (not d) (sym e ∙ set_back xs m x h) in
      and-join (is_zero (get_or (set ys m 1) x 1)) (not d) (⊎_elim (λ i. absurd (other xs x i h)) (λ i. i) (set-only ys m x q.0)) q.1)
      (λ h.
      let q = and_parts (is_zero (get_or (set ys m 1) x 1)) (not d) h in
      ⊎_elim (λ i. absurd (other ys x i q.0)) (λ i. i) (set-only xs m x (e ∙ and-join (is_zero (get_or ys x 1)) (not d) (set_back ys m x q.0) q.1)))
    where
      other : (zs : List ℕ) (x : ℕ) → x ≡ m → is_zero (get_or (set zs m 1) x 1) ≡ true → ⊥
      other zs x i h = true≢false (sym h ∙ ap (λ (y : ℕ). is_zero (get_or (set zs m 1) y 1)) i ∙ set_self zs m)

  pruned-visit : (pre : List ℕ) (k : ℕ) (a b : S) (m : ℕ) → Pruned pre a b → Pruned pre (go k a m) (go k b m)
  unfolding visit
  pruned-visit pre zero a b m r = r
  pruned-visit pre (suc k) a b m r =
      ⊎_elim
      (λ (d : D m ≡ true). rw (visit-met succ everywhere snoc (suc k) a m (r.same m ∙ and-out (fresh b m) (out m) (ap not d))) (pruned-in pre (suc k) a b m d r))
      (λ (d : D m ≡ false).
      let e : fresh a m ≡ fresh b m = r.same m ∙ ap (λ (z : Bool). fresh b m && not z) d ∙ and-out-true (fresh b m) in
      ⊎_elim
      (λ f.
      let fa = e ∙ f in
      let i = pruned-fold pre k (pruned-visit pre k) (enter m a) (enter m b) (succ m) (record { same = λ x. set_same a.marks b.marks m x (D x) fa f (r.same x); lists = r.lists }) in
      rw (visit-new succ everywhere snoc k a m fa, visit-new succ everywhere snoc k b m f)
      (record { same = i.same; lists = ap (λ (l : List ℕ). snoc l m) i.lists ∙ append_assoc pre (keep out (foldl (go k) (enter m b) (succ m)).made) (m ∷ []) ∙ ap (λ (l : List ℕ). pre ++ l) (sym (keep-last m (foldl (go k) (enter m b) (succ m)).made d)) }))
      (λ f. rw (visit-met succ everywhere snoc (suc k) a m (e ∙ f), visit-met succ everywhere snoc (suc k) b m f) r)
      (both (fresh b m)))
      (both (D m))

-- the part of one more root is its own order without what the earlier roots list
pub order-pruned : (succ : ℕ → List ℕ) (n : ℕ) → ((m y : ℕ) → Memᴰ y (succ m) → y < n) → (roots : List ℕ) (r : ℕ)
    → post_order succ everywhere n (roots ++ (r ∷ [])) ≡ post_order succ everywhere n roots ++ keep (λ (x : ℕ). not (elem x (post_order succ everywhere n roots))) (post_order succ everywhere n (r ∷ []))
unfolding post_order
order-pruned succ n inside roots r =
    let before : St (List ℕ) = walk succ everywhere snoc (unmet n) roots in
    ap (λ (t : St (List ℕ)). t.made)
    (walk-append succ everywhere snoc (unmet n) roots (r ∷ [])
    ∙ walk-fuel succ everywhere snoc n before (r ∷ []) (let g = walk-grown succ everywhere snoc (unmet n) roots in omega (arith, g.fewer, zeros-replicate n)))
    ∙ (pruned-visit succ listed follows before.made n before (unmet n) r start).lists
    ∙ ap (λ (t : St (List ℕ)). before.made ++ keep (λ (x : ℕ). not (listed x)) t.made) (sym (walk-fuel succ everywhere snoc n (unmet n) (r ∷ []) (omega (arith, zeros-replicate n))))
  where
    order : List ℕ
    order = post_order succ everywhere n roots

    listed : ℕ → Bool
    listed x = elem x order

    follows : (x y : ℕ) → listed x ≡ true → Memᴰ y (succ x) → listed y ≡ true
    follows x y e h = mem-elem y order (order-followed succ everywhere n roots x y (elem_mem x order e) h refl (inside x y h))

    start : Pruned succ listed follows (walk succ everywhere snoc (unmet n) roots).made (walk succ everywhere snoc (unmet n) roots) (unmet n)
    start = record {
      same = λ x.
          iff-eq (fresh (walk succ everywhere snoc (unmet n) roots) x) (fresh (unmet n) x && not (listed x))
          (λ f.
          and-join (fresh (unmet n) x) (not (listed x)) ((walk-grown succ everywhere snoc (unmet n) roots).grow x f)
          (⊎_elim (λ q. absurd (true≢false (sym f ∙ (order-met succ everywhere n roots x (elem_mem x order q)).1))) (λ q. ap not q) (both (listed x))))
          (λ h.
          let q = and_parts (fresh (unmet n) x) (not (listed x)) h in
          ⊎_elim (λ f. f) (λ f. absurd (true≢false (sym (mem-elem x order (met-order succ everywhere n roots x (unmet-in n x q.0) f)) ∙ not-true (listed x) q.1))) (both (fresh (walk succ everywhere snoc (unmet n) roots) x)));
      lists = sym (append-nil (walk succ everywhere snoc (unmet n) roots).made);
    }
