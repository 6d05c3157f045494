-- A post-order written to a slice, place by place.
-- Assumes nothing.
use mathlib.Core.Path.{◌≡◌, refl, sym, ap, subst, ◌∙◌}
use mathlib.Core.Bool.{Bool, true, false, cond}
use mathlib.Core.Logic.{⊎_elim}
use mathlib.Core.List.{List, [], ◌∷◌, ◌++◌, foldl, append-nil, append_assoc}
use Prim.Native.Nat.{ℕ, suc, ◌+◌, ◌≤◌, ◌<◌}
use native.Mathlib.Nat.{zero-add}
use native.Mathlib.Numerals.{add-one}
use native.Mathlib.Omega.{arith}
use lib.ListN.{length, set, replicate, take, drop, length-set, take-append-drop}
use lib.Seq.{drop-set-lt, take-suc-set}
use Rattle.lists.specs.Words.{keep}
use Rattle.lists.proofs.Laws.{both, length-keep}
use Rattle.walk.specs.Walk.{walk, post_order, Placed, place}
use Rattle.walk.proofs.Visits.{walk-made}
use Rattle.walk.proofs.Orders.{order-length}

module _ (kept : ℕ → Bool) where
  -- one more at most is placed, in a slice as long
  pub place-count : (p : Placed) (m : ℕ) → (place kept p m).count ≤ p.count + 1
  place-count p m = go (kept m)
    where
      go : (b : Bool) → cond b (p.count + 1) p.count ≤ p.count + 1
      go true = omega arith
      go false = omega arith

  pub place-length : (n : ℕ) (p : Placed) (m : ℕ) → length p.order ≡ n → length (place kept p m).order ≡ n
  place-length n p m e = go (kept m)
    where
      go : (b : Bool) → length (cond b (set p.order p.count m) p.order) ≡ n
      go true = length-set p.order p.count m ∙ e
      go false = e

  keep-yes : (x : ℕ) (xs : List ℕ) → kept x ≡ true → keep kept (x ∷ xs) ≡ x ∷ keep kept xs
  keep-yes x xs e = rw e

  keep-no : (x : ℕ) (xs : List ℕ) → kept x ≡ false → keep kept (x ∷ xs) ≡ keep kept xs
  keep-no x xs e = rw e

  pub place-yes : (p : Placed) (m : ℕ) → kept m ≡ true → place kept p m ≡ record { order = set p.order p.count m; count = p.count + 1 }
  place-yes p m e = rw e

  pub place-no : (p : Placed) (m : ℕ) → kept m ≡ false → place kept p m ≡ p
  place-no p m e = rw e

  -- from p to q: the list xs is placed
  record Filled (p : Placed) (xs : List ℕ) (q : Placed) : Type 0 where
    counts : q.count ≡ p.count + length xs
    front : take q.count q.order ≡ take p.count p.order ++ xs
    back : drop q.count q.order ≡ drop q.count p.order

  -- one that is kept, and then more
  filled_next : (x : ℕ) (l : List ℕ) (p q : Placed) → p.count < length p.order → Filled (record { order = set p.order p.count x; count = p.count + 1 }) l q → Filled p (x ∷ l) q
  filled_next x l p q r h =
      let c = h.counts in
      let one : take (p.count + 1) (set p.order p.count x) ≡ take p.count p.order ++ (x ∷ []) =
      ap (λ (k : ℕ). take k (set p.order p.count x)) (add-one p.count) ∙ take-suc-set p.order p.count x r in
      record {
        counts = omega arith;
        front = h.front ∙ ap (λ (k : List ℕ). k ++ l) one ∙ append_assoc (take p.count p.order) (x ∷ []) l;
        back = h.back ∙ drop-set-lt q.count p.order p.count x (omega arith);
      }

  placed-all : (xs : List ℕ) (p : Placed) → p.count + length (keep kept xs) ≤ length p.order → Filled p (keep kept xs) (foldl (place kept) p xs)
  placed-all [] p r = record { counts = omega arith; front = sym (append-nil (take p.count p.order)); back = refl }
  placed-all (x ∷ xs) p r =
      ⊎_elim
      (λ e.
      let p' : Placed = record { order = set p.order p.count x; count = p.count + 1 } in
      let n = length-set p.order p.count x in
      let r' : p.count + suc (length (keep kept xs)) ≤ length p.order = subst (λ (k : List ℕ). p.count + length k ≤ length p.order) (keep-yes x xs e) r in
      rw (keep-yes x xs e, place-yes p x e) (filled_next x (keep kept xs) p (foldl (place kept) p' xs) (omega arith) (placed-all xs p' (omega arith))))
      (λ e. rw (keep-no x xs e, place-no p x e) (placed-all xs p (subst (λ (k : List ℕ). p.count + length k ≤ length p.order) (keep-no x xs e) r)))
      (both (kept x))

  -- from place 0
  pub placed-list : (xs order : List ℕ) → length (keep kept xs) ≤ length order
      → foldl (place kept) (record { order = order; count = 0 }) xs ≡ record { order = keep kept xs ++ drop (length (keep kept xs)) order; count = length (keep kept xs) }
  placed-list xs order r =
      let l : List ℕ = keep kept xs in
      let q : Placed = foldl (place kept) (record { order = order; count = 0 }) xs in
      let h : Filled (record { order = order; count = 0 }) l q = placed-all xs (record { order = order; count = 0 }) (omega arith) in
      let c : q.count ≡ length l = h.counts ∙ zero-add (length l) in
      let o : q.order ≡ l ++ drop (length l) order =
      sym (take-append-drop q.count q.order) ∙ ap (λ (k : List ℕ). k ++ drop q.count q.order) h.front ∙ ap (λ (k : List ℕ). l ++ k) (h.back ∙ ap (λ (i : ℕ). drop i order) c) in
      ap (λ (k : List ℕ). record { order = k; count = q.count }) o ∙ ap (λ (i : ℕ). record { order = l ++ drop (length l) order; count = i }) c

  -- those of a post-order that are kept, from place 0
  pub placed-order : (succ : ℕ → List ℕ) (gate : ℕ → Bool) (n : ℕ) (roots order : List ℕ) → n ≤ length order
      → let l = keep kept (post_order succ gate n roots) in
      (walk succ gate (place kept) (record { marks = replicate n 0; made = record { order = order; count = 0 } }) roots).made ≡ record { order = l ++ drop (length l) order; count = length l }
  placed-order succ gate n roots order r =
      let o : List ℕ = post_order succ gate n roots in
      walk-made succ gate (place kept) (record { order = order; count = 0 }) n roots
      ∙ placed-list o order (omega (arith, length-keep kept o, order-length succ gate n roots))
