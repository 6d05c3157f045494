-- Two lists without repeats in which every unplanned member stands in both and none comes early are, planned ones struck out, the same list.
-- Assumes nothing.
use Rattle.std.specs.Prelude.{◌≡◌, ℕ, suc, ◌<◌, ◌≤◌, Bool, true, false, eqb, List, [], ◌∷◌}
use mathlib.Core.Path.{refl, sym, ap, subst, ◌∙◌}
use mathlib.Core.Logic.{⊎_elim}
use mathlib.Core.Bool.{true≢false}
use mathlib.Core.List.Memᴰ
use mathlib.Core.List.{Memᴰ}
use native.Mathlib.Nat.{eq-or-lt_of_le}
use native.Mathlib.Omega.{arith}
use borrow.Author.Tests.{eq-eqb, ne_eqb, eqb-true}
use Rattle.lists.specs.Words.{keep, Distinct}
use Rattle.lists.proofs.Laws.{both, mem-keep, keep-mem}
use Rattle.risk_of_orders.specs.Risk.{place, before}

-- places in a list

eqb-self : (x : ℕ) → eqb x x ≡ true
eqb-self x = eq-eqb x x refl

place_other : (x a : ℕ) (A : List ℕ) → (x ≡ a → ⊥) → place x (a ∷ A) ≡ suc (place x A)
place_other x a A n = rw (ne_eqb x a n)

-- two members at one place are one
place_same : (x y : ℕ) (A : List ℕ) → Memᴰ x A → Memᴰ y A → place x A ≡ place y A → x ≡ y
place_same x y [] h k e = absurd (Memᴰ.not-nil h)
place_same x y (a ∷ A) h k e =
    ⊎_elim
    (λ p. ⊎_elim (λ q. eqb-true x a p ∙ sym (eqb-true y a q)) (λ q. absurd (omega (arith, rw (p, q) at e))) (both (eqb y a)))
    (λ p. ⊎_elim (λ q. absurd (omega (arith, rw (p, q) at e))) (λ q. place_same x y A (later x h p) (later y k q) (omega (arith, rw (p, q) at e))) (both (eqb y a)))
    (both (eqb x a))
  where
    later : (z : ℕ) → Memᴰ z (a ∷ A) → eqb z a ≡ false → Memᴰ z A
    later z m n = ⊎_elim (λ q. absurd (true≢false (sym (eq-eqb z a q) ∙ n))) (λ t. t) (Memᴰ.cases_cons m)

-- x doesn't stand before itself
before-not : (x : ℕ) (xs : List ℕ) → Memᴰ x (before x xs) → ⊥
before-not x [] h = Memᴰ.not-nil h
before-not x (y ∷ xs) h =
    ⊎_elim (λ e. Memᴰ.not-nil (rw e at h))
    (λ e. ⊎_elim (λ q. true≢false (sym (eq-eqb x y q) ∙ e)) (before-not x xs) (Memᴰ.cases_cons (rw e at h)))
    (both (eqb x y))

-- what stands before x stands in the list
pub before-mem : {e : ℕ} (x : ℕ) (xs : List ℕ) → Memᴰ e (before x xs) → Memᴰ e xs
before-mem x [] h = absurd (Memᴰ.not-nil h)
before-mem x (y ∷ xs) h =
    ⊎_elim (λ e. absurd (Memᴰ.not-nil (rw e at h)))
    (λ e. ⊎_elim (λ q. Memᴰ.head q) (λ t. Memᴰ.tail (before-mem x xs t)) (Memᴰ.cases_cons (rw e at h)))
    (both (eqb x y))

-- lists that rise by a key

unfoldable RisesBy : (ℕ → ℕ) → List ℕ → Type 0
RisesBy key [] = Unit {0}
RisesBy key (x ∷ xs) = ((y : ℕ) → Memᴰ y xs → key x < key y) × RisesBy key xs

-- with the same members they are the same list
rises-same : (key : ℕ → ℕ) (xs ys : List ℕ) → RisesBy key xs → RisesBy key ys
    → ((z : ℕ) → Memᴰ z xs → Memᴰ z ys) → ((z : ℕ) → Memᴰ z ys → Memᴰ z xs) → xs ≡ ys
unfolding RisesBy
rises-same key [] [] r s f g = refl
rises-same key [] (y ∷ ys) r s f g = absurd (Memᴰ.not-nil (g y (Memᴰ.head refl)))
rises-same key (x ∷ xs) [] r s f g = absurd (Memᴰ.not-nil (f x (Memᴰ.head refl)))
rises-same key (x ∷ xs) (y ∷ ys) r s f g =
    let e : x ≡ y = ⊎_elim (λ q. q) (λ h. ⊎_elim (λ q. sym q) (λ k. absurd (omega (arith, s.0 x h, r.0 y k))) (Memᴰ.cases_cons (g y (Memᴰ.head refl)))) (Memᴰ.cases_cons (f x (Memᴰ.head refl))) in
    let t : xs ≡ ys = rises-same key xs ys r.1 s.1
    (λ z h. ⊎_elim (λ q. absurd (omega (arith, r.0 z h, ap key (q ∙ sym e)))) (λ k. k) (Memᴰ.cases_cons (f z (Memᴰ.tail h))))
    (λ z h. ⊎_elim (λ q. absurd (omega (arith, s.0 z h, ap key (q ∙ e)))) (λ k. k) (Memᴰ.cases_cons (g z (Memᴰ.tail h))))
    in
    cc

rises-map : (f g : ℕ → ℕ) (xs : List ℕ) → ((x y : ℕ) → Memᴰ x xs → Memᴰ y xs → f x < f y → g x < g y) → RisesBy f xs → RisesBy g xs
unfolding RisesBy
rises-map f g [] h r = tt
rises-map f g (x ∷ xs) h r = (
  λ y k. h x y (Memᴰ.head refl) (Memᴰ.tail k) (r.0 y k),
  rises-map f g xs (λ a b p q. h a b (Memᴰ.tail p) (Memᴰ.tail q)) r.1,
)

rises-keep : (key : ℕ → ℕ) (u : ℕ → Bool) (xs : List ℕ) → RisesBy key xs → RisesBy key (keep u xs)
unfolding RisesBy
rises-keep key u [] r = tt
rises-keep key u (x ∷ xs) r =
    ⊎_elim (λ e. rw e (λ y h. r.0 y (mem-keep u xs h).0, rises-keep key u xs r.1)) (λ e. rw e (rises-keep key u xs r.1)) (both (u x))

-- a list without repeats rises by its own places
rises-place : (A : List ℕ) → Distinct A → RisesBy (λ (x : ℕ). place x A) A
unfolding RisesBy Distinct
rises-place [] d = tt
rises-place (a ∷ A) d = (
  λ y h. omega (arith, first, next y h),
  rises-map (λ (x : ℕ). place x A) (λ (x : ℕ). place x (a ∷ A)) A (λ x y h k l. omega (arith, next x h, next y k)) (rises-place A d.1),
)
  where
    first : place a (a ∷ A) ≡ 0
    first = rw (eqb-self a)

    next : (y : ℕ) → Memᴰ y A → place y (a ∷ A) ≡ suc (place y A)
    next y h = place_other y a A (λ q. d.0 (subst (λ (z : ℕ). Memᴰ z A) q h))

-- the kept members of a list rise by a key where each kept member is above every kept one before it
rises-before : (key : ℕ → ℕ) (u : ℕ → Bool) (xs : List ℕ) → Distinct xs
    → ((x y : ℕ) → u x ≡ true → u y ≡ true → Memᴰ y xs → Memᴰ x (before y xs) → key x < key y) → RisesBy key (keep u xs)
unfolding RisesBy Distinct
rises-before key u [] d h = tt
rises-before key u (a ∷ xs) d h =
    let past : (y : ℕ) → Memᴰ y xs → before y (a ∷ xs) ≡ a ∷ before y xs = λ y k. rw (ne_eqb y a (λ q. d.0 (subst (λ (z : ℕ). Memᴰ z xs) q k))) in
    let rest : RisesBy key (keep u xs) = rises-before key u xs d.1 (λ x y p q k b. h x y p q (Memᴰ.tail k) (subst (Memᴰ x) (sym (past y k)) (Memᴰ.tail b))) in
    ⊎_elim
    (λ e. rw e (λ y k. let m = mem-keep u xs k in h a y e m.1 (Memᴰ.tail m.0) (subst (Memᴰ a) (sym (past y m.0)) (Memᴰ.head refl)), rest))
    (λ e. rw e rest)
    (both (u a))

module _ (E A : List ℕ) (d_e : Distinct E) (d_a : Distinct A) (u : ℕ → Bool) where
  pub same-order : ((x : ℕ) → Memᴰ x E → u x ≡ true → Memᴰ x A) → ((x : ℕ) → Memᴰ x A → u x ≡ true → Memᴰ x E)
      → ((x e : ℕ) → Memᴰ x E → u x ≡ true → Memᴰ e (before x E) → Memᴰ e A → place e A ≤ place x A)
      → keep u E ≡ keep u A
  same-order f g late =
      rises-same (λ (x : ℕ). place x A) (keep u E) (keep u A)
      (rises-before (λ (x : ℕ). place x A) u E d_e
      (λ x y p q h b.
      let k = f x (before-mem y E b) p in
      let l = late y x h q b k in
      below (place x A) (place y A) l (λ e. before-not y E (subst (λ (z : ℕ). Memᴰ z (before y E)) (place_same x y A k (f y h q) e) b))))
      (rises-keep (λ (x : ℕ). place x A) u A (rises-place A d_a))
      (λ z h. let m = mem-keep u E h in keep-mem u A (f z m.0 m.1) m.1)
      (λ z h. let m = mem-keep u A h in keep-mem u E (g z m.0 m.1) m.1)
    where
      below : (a b : ℕ) → a ≤ b → (a ≡ b → ⊥) → a < b
      below a b l n = ⊎_elim (λ q. absurd (n q)) (λ q. q) (eq-or-lt_of_le l)
