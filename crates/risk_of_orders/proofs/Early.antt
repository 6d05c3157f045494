-- A running maximum over the actual places decides which modules of the expected sensitive order are early.
-- Assumes nothing.
use Rattle.std.specs.Prelude.{◌≡◌, ℕ, zero, suc, Bool, true, false, cond, ◌&&◌, ◌||◌, eqb, ltb, List, [], ◌∷◌, ◌++◌, length}
use mathlib.Core.Path.{refl, sym, ap, ◌∙◌}
use mathlib.Core.Logic.{⊎_elim}
use mathlib.Core.Bool.{true≢false}
use mathlib.Core.List.{foldl}
use native.Mathlib.Omega.{arith}
use lib.Dec.{leb-suc-zero, leb-suc-suc}
use borrow.Author.Tests.{ne_eqb, eqb-true, eqb-false, lt-ltb, le-ltb, ltb-true, ltb-false}
use Rattle.lists.specs.Words.{any, elem}
use Rattle.lists.proofs.Laws.{both}
use Rattle.tables.specs.Lookups.{greater_of}
use Rattle.risk_of_orders.specs.Risk.{place, before, expected_sensitive, actual_sensitive, early}
use Rattle.risk_of_orders.specs.inner.Early.{rank, highest}

greater-above : (c a b : ℕ) → ltb c (greater_of a b) ≡ (ltb c a || ltb c b)
greater-above c a b =
    ⊎_elim
    (λ e. rw e (⊎_elim (λ q. rw q (lt-ltb c b (omega (arith, ltb-true a b e, ltb-true c a q)))) (λ q. rw q) (both (ltb c a))))
    (λ e. rw e (⊎_elim (λ q. rw q) (λ q. rw q (sym (le-ltb c b (omega (arith, ltb-false a b e, ltb-false c a q))))) (both (ltb c a))))
    (both (ltb a b))

-- one is above c exactly if the greatest is
pub highest-above : (ranks : ℕ → ℕ) (c : ℕ) (xs : List ℕ) → ltb c (highest ranks xs) ≡ any (λ (x : ℕ). ltb c (ranks x)) xs
unfolding highest
highest-above ranks c xs = from zero xs ∙ ap (λ (b : Bool). b || any (λ (x : ℕ). ltb c (ranks x)) xs) (leb-suc-zero c)
  where
    or-false : (a : Bool) → a ≡ (a || false)
    or-false true = refl
    or-false false = refl

    or-cond : (a b c : Bool) → ((a || b) || c) ≡ (a || cond b true c)
    or-cond true b c = refl
    or-cond false true c = refl
    or-cond false false c = refl

    from : (a : ℕ) (xs : List ℕ) → ltb c (foldl (λ (a x : ℕ). greater_of a (ranks x)) a xs) ≡ (ltb c a || any (λ (x : ℕ). ltb c (ranks x)) xs)
    from a [] = or-false (ltb c a)
    from a (x ∷ xs) =
        from (greater_of a (ranks x)) xs
        ∙ ap (λ (b : Bool). b || any (λ (y : ℕ). ltb c (ranks y)) xs) (greater-above c a (ranks x))
        ∙ or-cond (ltb c a) (ltb c (ranks x)) (any (λ (y : ℕ). ltb c (ranks y)) xs)

-- ranks in a list with one more in front, and at the end where it wasn't there

one_later : ℕ → ℕ
one_later zero = zero
one_later (suc n) = suc (suc n)

rank-first : (y m : ℕ) (xs : List ℕ) → eqb m y ≡ true → rank (y ∷ xs) m ≡ 1
unfolding rank
rank-first y m xs e = rw e

rank-later : (y m : ℕ) (xs : List ℕ) → eqb m y ≡ false → rank (y ∷ xs) m ≡ one_later (rank xs m)
unfolding rank one_later
rank-later y m xs e = rw e (⊎_elim (λ q. rw q) (λ q. rw q) (both (elem m xs)))

pub rank-snoc : (xs : List ℕ) (x m : ℕ) → elem x xs ≡ false → rank (xs ++ (x ∷ [])) m ≡ cond (eqb m x) (suc (length xs)) (rank xs m)
unfolding rank one_later
rank-snoc [] x m e = ⊎_elim (λ q. rw q) (λ q. rw q) (both (eqb m x))
rank-snoc (y ∷ xs) x m e =
    let d : eqb x y ≡ false = ⊎_elim (λ q. absurd (true≢false (rw q at e))) (λ q. q) (both (eqb x y)) in
    let r : elem x xs ≡ false = rw d at e in
    ⊎_elim
    (λ q. rank-first y m (xs ++ (x ∷ [])) q ∙ sym (ap (λ (b : Bool). cond b (suc (suc (length xs))) (rank (y ∷ xs) m)) (ne_eqb m x (λ k. eqb-false x y d (sym k ∙ eqb-true m y q))) ∙ rank-first y m xs q))
    (λ q.
    rank-later y m (xs ++ (x ∷ [])) q
    ∙ ap one_later (rank-snoc xs x m r)
    ∙ spread (eqb m x) (length xs) (rank xs m)
    ∙ ap (λ (n : ℕ). cond (eqb m x) (suc (suc (length xs))) n) (sym (rank-later y m xs q)))
    (both (eqb m y))
  where
    spread : (b : Bool) (n k : ℕ) → one_later (cond b (suc n) k) ≡ cond b (suc (suc n)) (one_later k)
    spread true n k = refl
    spread false n k = refl

-- places compare as ranks do
rank_below : (xs : List ℕ) (m x : ℕ) → elem m xs ≡ true → (elem x xs && ltb (place m xs) (place x xs)) ≡ ltb (rank xs m) (rank xs x)
unfolding rank
rank_below xs m x e =
    rw e
    (⊎_elim (λ q. rw q (sym (leb-suc-suc (suc (place m xs)) (place x xs)))) (λ q. rw q (sym (leb-suc-zero (suc (place m xs))))) (both (elem x xs)))

module _ (sensitive eligible : ℕ → Bool) (expected actual hosts : List ℕ) where
  abbrev E : List ℕ
  E = expected_sensitive sensitive eligible expected actual hosts

  abbrev A : List ℕ
  A = actual_sensitive sensitive eligible expected actual hosts

  -- a module with an actual place is early where its rank is below the greatest rank before it
  pub early-highest : (m : ℕ) → early sensitive eligible expected actual hosts m ≡ (elem m A && ltb (rank A m) (highest (rank A) (before m E)))
  unfolding early
  early-highest m = and_same (elem m A) _ _ (λ e. any_same (before m E) (λ x. rank_below A m x e) ∙ sym (highest-above (rank A) (rank A m) (before m E)))
    where
      and_same : (a b c : Bool) → (a ≡ true → b ≡ c) → (a && b) ≡ (a && c)
      and_same true b c h = h refl
      and_same false b c h = refl

      any_same : {f g : ℕ → Bool} (xs : List ℕ) → ((x : ℕ) → f x ≡ g x) → any f xs ≡ any g xs
      any_same [] h = refl
      any_same {f} {g} (x ∷ xs) h = ap (λ (b : Bool). cond b true (any f xs)) (h x) ∙ ap (λ (b : Bool). cond (g x) true b) (any_same xs h)
