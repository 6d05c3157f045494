-- A list in which all from the first that passes on pass is those that don't pass and then the rest.
-- Assumes nothing.
use mathlib.Core.Path.{◌≡◌, refl, ap}
use mathlib.Core.Logic.{⊎_elim}
use mathlib.Core.Bool.{Bool, true, not}
use mathlib.Core.List.{List, [], ◌∷◌, ◌++◌, Memᴰ}
use Prim.Native.Nat.{ℕ}
use Rattle.lists.specs.Words.{keep, elem, has}
use Rattle.lists.proofs.Laws.{both, and-join, mem-any, mem-elem, keep-none}
use Rattle.wrap_rules.specs.Rules.{from_first, suffix_asks}

pub suffix-split : (f : ℕ → Bool) (xs : List ℕ) → ((x : ℕ) → Memᴰ x (from_first f xs) → f x ≡ true) → xs ≡ keep (λ (x : ℕ). not (f x)) xs ++ from_first f xs
suffix-split f [] h = refl
suffix-split f (y ∷ xs) h =
    ⊎_elim
    (λ e.
    let all : (x : ℕ) → Memᴰ x (y ∷ xs) → f x ≡ true = λ x m. h x (rw e m) in
    let none : keep (λ (x : ℕ). not (f x)) xs ≡ [] = keep-none (λ (x : ℕ). not (f x)) xs (λ x m. ap not (all x (Memᴰ.tail m))) in
    rw none (rw e))
    (λ e. rw e (ap (λ (l : List ℕ). y ∷ l) (suffix-split f xs (λ x m. h x (rw e m)))))
    (both (f y))

-- what stands from the first planned module of an order on is asked for where it is eligible
pub suffix-planned : (eligible : ℕ → Bool) (orders : List (List ℕ)) (S order : List ℕ) (m : ℕ) → Memᴰ order orders → Memᴰ m (from_first (has S) order) → eligible m ≡ true
    → suffix_asks eligible orders S m ≡ true
unfolding suffix_asks
suffix-planned eligible orders S order m o h g =
    and-join (eligible m) _ g (mem-any (λ (xs : List ℕ). elem m (from_first (has S) xs)) orders o (mem-elem m (from_first (has S) order) h))
