-- What functions give of each member: as a list of values, as lists in turn, and as a fold.
-- Assumes nothing.
use Rattle.std.specs.Prelude.{◌≡◌, ℕ, zero, suc, ◌+◌, ◌<◌, Bool, List, [], ◌∷◌, ◌++◌, map, length, get_or}
use mathlib.Core.Path.{refl, sym, ap, ap₂, ◌∙◌}
use mathlib.Core.Logic.{⊎_elim}
use mathlib.Core.List.{append-nil, append_assoc, foldl, flat_map, Memᴰ}
use native.Mathlib.Nat.{add-zero, add-suc, suc-add}
use native.Mathlib.Omega.{arith}
use Rattle.lists.specs.Words.{count_from, up_to, keep}
use Rattle.lists.proofs.Laws.{both, keep_append}

-- a value a member

module _ {B : Type 0} where
  pub map-cong : (f g : ℕ → B) (xs : List ℕ) → ((x : ℕ) → Memᴰ x xs → f x ≡ g x) → map f xs ≡ map g xs
  map-cong f g [] h = refl
  map-cong f g (x ∷ xs) h = ap₂ (λ (y : B) (r : List B). y ∷ r) (h x (Memᴰ.head refl)) (map-cong f g xs (λ y m. h y (Memᴰ.tail m)))

  map-from-cong : (f g : ℕ → B) (i n : ℕ) → ((k : ℕ) → k < i + n → f k ≡ g k) → map f (count_from i n) ≡ map g (count_from i n)
  map-from-cong f g i zero h = refl
  map-from-cong f g i (suc n) h = ap₂ (λ (y : B) (r : List B). y ∷ r) (h i (omega arith)) (map-from-cong f g (suc i) n (λ k l. h k (omega arith)))

  pub map-up_to-cong : (f g : ℕ → B) (n : ℕ) → ((k : ℕ) → k < n → f k ≡ g k) → map f (up_to n) ≡ map g (up_to n)
  map-up_to-cong f g n h = map-from-cong f g 0 n (λ k l. h k (omega arith))

  map-shift : (f : ℕ → B) (i n : ℕ) → map f (count_from (suc i) n) ≡ map (λ (k : ℕ). f (suc k)) (count_from i n)
  map-shift f i zero = refl
  map-shift f i (suc n) = ap (λ (r : List B). f (suc i) ∷ r) (map-shift f (suc i) n)

  -- a list is what stands at each of its places
  pub map-up_to-self : (d : B) (xs : List B) → map (λ (k : ℕ). get_or xs k d) (up_to (length xs)) ≡ xs
  map-up_to-self d [] = refl
  map-up_to-self d (x ∷ xs) = ap (λ (r : List B). x ∷ r) (map-shift (λ (k : ℕ). get_or (x ∷ xs) k d) 0 (length xs) ∙ map-up_to-self d xs)

-- those of a mapped list that pass
pub keep-map : (f : ℕ → Bool) (g : ℕ → ℕ) (xs : List ℕ) → length (keep f (map g xs)) ≡ length (keep (λ (x : ℕ). f (g x)) xs)
keep-map f g [] = refl
keep-map f g (x ∷ xs) =
    ⊎_elim
    (λ e. rw e (ap suc (keep-map f g xs)))
    (λ e. rw e (keep-map f g xs))
    (both (f (g x)))

-- lists in turn

module _ {B : Type 0} (f : ℕ → List B) where
  pub flat-one : (x : ℕ) → flat_map f (x ∷ []) ≡ f x
  unfolding flat_map
  flat-one x = append-nil (f x)

  pub flat_append : (xs ys : List ℕ) → flat_map f (xs ++ ys) ≡ flat_map f xs ++ flat_map f ys
  unfolding flat_map
  flat_append [] ys = refl
  flat_append (x ∷ xs) ys = ap (λ (l : List B). f x ++ l) (flat_append xs ys) ∙ sym (append_assoc (f x) (flat_map f xs) (flat_map f ys))

  -- one row more at the end
  pub flat-snoc : (i n : ℕ) → flat_map f (count_from i (suc n)) ≡ flat_map f (count_from i n) ++ f (i + n)
  unfolding flat_map
  flat-snoc i zero = append-nil (f i) ∙ ap f (sym (add-zero i))
  flat-snoc i (suc n) =
      ap (λ (l : List B). f i ++ l) (flat-snoc (suc i) n ∙ ap (λ (k : ℕ). flat_map f (count_from (suc i) n) ++ f k) (suc-add i n ∙ sym (add-suc i n)))
      ∙ sym (append_assoc (f i) (flat_map f (count_from (suc i) n)) (f (i + suc n)))

pub flat-cong : (f g : ℕ → List ℕ) (xs : List ℕ) → ((x : ℕ) → Memᴰ x xs → f x ≡ g x) → flat_map f xs ≡ flat_map g xs
unfolding flat_map
flat-cong f g [] h = refl
flat-cong f g (x ∷ xs) h = ap₂ (λ (a b : List ℕ). a ++ b) (h x (Memᴰ.head refl)) (flat-cong f g xs (λ y m. h y (Memᴰ.tail m)))

-- where each member leads to just one place, all lead to those places
pub flat-ones : (f : ℕ → List ℕ) (g : ℕ → ℕ) (xs : List ℕ) → ((x : ℕ) → Memᴰ x xs → f x ≡ g x ∷ []) → flat_map f xs ≡ map g xs
unfolding flat_map
flat-ones f g [] h = refl
flat-ones f g (x ∷ xs) h = rw (h x (Memᴰ.head refl)) (ap (λ (l : List ℕ). g x ∷ l) (flat-ones f g xs (λ y m. h y (Memᴰ.tail m))))

-- what is kept of lists in turn is what each list keeps
pub keep-flat : (f : ℕ → Bool) (g : ℕ → List ℕ) (xs : List ℕ) → keep f (flat_map g xs) ≡ flat_map (λ (x : ℕ). keep f (g x)) xs
unfolding flat_map
keep-flat f g [] = refl
keep-flat f g (x ∷ xs) = keep_append f (g x) (flat_map g xs) ∙ ap (λ (l : List ℕ). keep f (g x) ++ l) (keep-flat f g xs)

-- a fold

pub fold-cong : {S : Type 0} (f g : S → ℕ → S) (xs : List ℕ) → ((x : ℕ) → Memᴰ x xs → (s : S) → f s x ≡ g s x) → (s : S) → foldl f s xs ≡ foldl g s xs
fold-cong f g [] h s = refl
fold-cong f g (x ∷ xs) h s = fold-cong f g xs (λ y i. h y (Memᴰ.tail i)) (f s x) ∙ ap (λ t. foldl g t xs) (h x (Memᴰ.head refl) s)
