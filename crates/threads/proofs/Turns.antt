-- A loop over an iterator that hands out a list from the front: what it has taken, and what is left.
-- Assumes nothing.
use Rattle.std.specs.Prelude.{◌≡◌, ℕ, ◌<◌, Bool, true, false, cond, ◌||◌, List, [], ◌∷◌, ◌++◌, length, get_or}
use Rattle.std.specs.Iterator.{YieldsFirst, Yields}
use mathlib.Core.Path.{refl, sym, ap, subst, ◌∙◌}
use native.Mathlib.Omega.{arith}
use Rattle.std.proofs.Common.{append-nil}
use lib.ListN.{length-append}
use Rattle.lists.specs.Words.{any}
use Rattle.lists.proofs.Laws.{any_append}
use Rattle.tables.specs.Accepted.{Below}

module _ (all : List ℕ) where
  -- the items so far and those that are left are all
  front : (xs left : List ℕ) → Yields {S = List ℕ} (YieldsFirst (λ l. l)) all xs left → all ≡ xs ++ left
  front = go all
    where
      go : (all xs left : List ℕ) → Yields {S = List ℕ} (YieldsFirst (λ l. l)) all xs left → all ≡ xs ++ left
      go all [] left y = y
      go all (x ∷ xs) left y = (y.1 ∙ ap (λ (l : List ℕ). x ∷ l) (go y.0 xs left y.2))

  -- at the end the items are all
  pub at-end : (xs left : List ℕ) → Yields {S = List ℕ} (YieldsFirst (λ l. l)) all xs left → left ≡ [] → xs ≡ all
  at-end xs left y e = sym (front xs left y ∙ ap (λ (l : List ℕ). xs ++ l) e ∙ append-nil xs)

  -- an item is below what all are
  pub turn-below : {n x : ℕ} (xs left rest : List ℕ) → Yields {S = List ℕ} (YieldsFirst (λ l. l)) all xs left → left ≡ x ∷ rest → Below n all → x < n
  turn-below {n} {x} xs left rest y e b =
      let q : all ≡ xs ++ (x ∷ rest) = front xs left y ∙ ap (λ (l : List ℕ). xs ++ l) e in
      subst (λ (z : ℕ). z < n) (ap (λ (l : List ℕ). get_or l (length xs) 0) q ∙ at xs) (b (length xs) (omega (arith, ap length q, length-append xs (x ∷ rest))))
    where
      at : (ys : List ℕ) → get_or (ys ++ (x ∷ rest)) (length ys) 0 ≡ x
      at [] = refl
      at (y ∷ ys) = at ys

  -- an item that passes is one of all
  pub any-turn : {x : ℕ} (f : ℕ → Bool) (xs left rest : List ℕ) → Yields {S = List ℕ} (YieldsFirst (λ l. l)) all xs left → left ≡ x ∷ rest → f x ≡ true → true ≡ any f all
  any-turn {x} f xs left rest y e h =
      sym (ap (any f) (front xs left y ∙ ap (λ (l : List ℕ). xs ++ l) e) ∙ any_append f xs (x ∷ rest) ∙ ap (λ (b : Bool). any f xs || cond b true (any f rest)) h ∙ or-true (any f xs))
    where
      or-true : (b : Bool) → b || true ≡ true
      or-true true = refl
      or-true false = refl

-- none so far passes, nor does one more
pub any-on : {x : ℕ} (f : ℕ → Bool) (xs : List ℕ) → any f xs ≡ false → f x ≡ false → any f (xs ++ x ∷ []) ≡ false
any-on {x} f xs e h = any_append f xs (x ∷ []) ∙ ap (λ (b : Bool). b || any f (x ∷ [])) e ∙ ap (λ (b : Bool). cond b true false) h
