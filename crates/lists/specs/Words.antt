-- The words on lists that the definitions of all crates share.
-- Assumes nothing.
use Rattle.std.specs.Prelude.{ℕ, zero, suc, Bool, true, false, cond, not, List, [], ◌∷◌, nat_eq, slice_index}
use mathlib.Core.List.{Memᴰ}

abbrev pub is_zero : ℕ → Bool
is_zero zero = true
is_zero (suc n) = false

-- the n numbers i, i + 1, ..
abbrev pub count_from : ℕ → ℕ → List ℕ
count_from i zero = []
count_from i (suc n) = i ∷ count_from (suc i) n

-- the numbers 0, 1, .., below n
abbrev pub up_to : ℕ → List ℕ
up_to n = count_from zero n

module _ {A : Type 0} where
  -- those that pass a test, in order
  abbrev pub keep : (A → Bool) → List A → List A
  keep f [] = []
  keep f (x ∷ xs) = cond (f x) (x ∷ keep f xs) (keep f xs)

  -- one at least passes
  abbrev pub any : (A → Bool) → List A → Bool
  any f [] = false
  any f (x ∷ xs) = cond (f x) true (any f xs)

  -- every one passes
  abbrev pub every : (A → Bool) → List A → Bool
  every f [] = true
  every f (x ∷ xs) = cond (f x) (every f xs) false

  -- one stands twice, by a test of sameness
  abbrev pub twice : (A → A → Bool) → List A → Bool
  twice same [] = false
  twice same (x ∷ xs) = cond (any (same x) xs) true (twice same xs)

-- x stands in a list
abbrev pub elem : ℕ → List ℕ → Bool
elem x xs = any (nat_eq x) xs

-- A set is a list of marks: i is in where its mark is not 0, and a place past the end is out.
abbrev pub has : List ℕ → ℕ → Bool
has s i = not (is_zero (slice_index s i))

-- how many marks are 0
abbrev pub zeros : List ℕ → ℕ
zeros [] = zero
zeros (zero ∷ xs) = suc (zeros xs)
zeros (suc n ∷ xs) = zeros xs

-- how many marks are not 0
abbrev pub ones : List ℕ → ℕ
ones [] = zero
ones (zero ∷ xs) = ones xs
ones (suc n ∷ xs) = suc (ones xs)

-- 1 for yes, 0 for no
abbrev pub bit : Bool → ℕ
bit true = 1
bit false = 0

-- the set of those below n that pass a test, marked 1
abbrev pub marks_from : (ℕ → Bool) → ℕ → ℕ → List ℕ
marks_from f i zero = []
marks_from f i (suc n) = bit (f i) ∷ marks_from f (suc i) n

abbrev pub marks_of : (ℕ → Bool) → ℕ → List ℕ
marks_of f n = marks_from f zero n

-- no number stands twice
unfoldable pub Distinct : List ℕ → Type 0
Distinct [] = Unit {0}
Distinct (x ∷ xs) = (Memᴰ x xs → ⊥) × Distinct xs
