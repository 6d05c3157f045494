-- Tests that hold where others do, and tests of every member.
-- Assumes nothing.
use Rattle.std.specs.Prelude.{◌≡◌, ℕ, zero, suc, ◌+◌, ◌<◌, Bool, true, false, cond, ◌&&◌, ◌||◌, List, [], ◌∷◌, length, get_or}
use mathlib.Core.Path.{refl, ap, ◌∙◌}
use mathlib.Core.Logic.{⊎_elim}
use mathlib.Core.Bool.{false≢true}
use native.Mathlib.Nat.{zero-add}
use native.Mathlib.Omega.{arith}
use Rattle.lists.specs.Words.{count_from, up_to, any, every}
use Rattle.lists.proofs.Laws.{both, and_parts, and-join, or_parts, or_left, or_right, any-mem, mem-any, any_append, count_from-append}

-- a test that adds nothing

pub cond-id : (b : Bool) → cond b true false ≡ b
cond-id true = refl
cond-id false = refl

pub and-true : (b : Bool) → (b && true) ≡ b
and-true true = refl
and-true false = refl

pub or-false : (b : Bool) → (b || false) ≡ b
or-false true = refl
or-false false = refl

-- tests that hold where others do

pub and-more : {a b c d : Bool} → (a ≡ true → c ≡ true) → (b ≡ true → d ≡ true) → (a && b) ≡ true → (c && d) ≡ true
and-more {a} {b} {c} {d} f g e = let r = and_parts a b e in and-join c d (f r.0) (g r.1)

pub and_right : (a : Bool) {b d : Bool} → (b ≡ true → d ≡ true) → (a && b) ≡ true → (a && d) ≡ true
and_right a g = and-more {a = a} {c = a} (λ e. e) g

pub or-more : {a b c d : Bool} → (a ≡ true → c ≡ true) → (b ≡ true → d ≡ true) → (a || b) ≡ true → (c || d) ≡ true
or-more {a} {b} {c} {d} f g e = ⊎_elim (λ l. or_left c d (f l)) (λ r. or_right c d (g r)) (or_parts a b e)

pub cond_more : (c : Bool) {a b a' b' : Bool} → (a ≡ true → a' ≡ true) → (b ≡ true → b' ≡ true) → cond c a b ≡ true → cond c a' b' ≡ true
cond_more true f g e = f e
cond_more false f g e = g e

module _ {A : Type 0} where
  pub any-more : (f g : A → Bool) (xs : List A) → ((x : A) → f x ≡ true → g x ≡ true) → any f xs ≡ true → any g xs ≡ true
  any-more f g xs h e = let r = any-mem f xs e in mem-any g xs r.1 (h r.0 r.2)

  -- every member, by the first and the others

  pub every-head : (f : A → Bool) (x : A) (xs : List A) → every f (x ∷ xs) ≡ true → (f x ≡ true) × (every f xs ≡ true)
  every-head f x xs e = ⊎_elim (λ q. (q, rw q at e)) (λ q. absurd (false≢true (rw q at e))) (both (f x))

  pub every-cons : (f : A → Bool) (x : A) (xs : List A) → f x ≡ true → every f xs ≡ true → every f (x ∷ xs) ≡ true
  every-cons f x xs h t = rw h t

  -- what every member passes, each place passes
  pub every-at : (f : A → Bool) (xs : List A) (d : A) → every f xs ≡ true → (i : ℕ) → i < length xs → f (get_or xs i d) ≡ true
  every-at f [] d e i l = absurd (omega arith)
  every-at f (x ∷ xs) d e zero l = (every-head f x xs e).0
  every-at f (x ∷ xs) d e (suc i) l = every-at f xs d (every-head f x xs e).1 i (omega arith)

-- none below i passes, nor i
pub none_below : (f : ℕ → Bool) (i : ℕ) → any f (up_to i) ≡ false → f i ≡ false → any f (up_to (i + 1)) ≡ false
none_below f i a b =
    ap (any f) (count_from-append 0 i 1)
    ∙ any_append f (up_to i) (count_from (0 + i) 1)
    ∙ ap (λ (t : Bool). t || any f (count_from (0 + i) 1)) a
    ∙ ap (λ (k : ℕ). any f (count_from k 1)) (zero-add i)
    ∙ ap (λ (t : Bool). cond t true false) b
