-- Members of a list: their places, and the members of lists in turn.
-- Assumes nothing.
use Rattle.std.specs.Prelude.{◌≡◌, ℕ, zero, suc, ◌<◌, false, List, [], ◌∷◌, length, get_or, take, drop}
use mathlib.Core.Path.{refl, sym, subst, ◌∙◌}
use mathlib.Core.Logic.{⊎_elim}
use mathlib.Core.Bool.{true≢false}
use mathlib.Core.List.Memᴰ
use mathlib.Core.List.{flat_map, Memᴰ}
use native.Mathlib.Omega.{arith}
use lib.ListN.{take-append-drop}
use Rattle.lists.specs.Words.{elem}
use Rattle.lists.proofs.Laws.{mem-elem}

-- what stands at a place is a member
pub get_d-mem : (xs : List ℕ) (i : ℕ) → i < length xs → Memᴰ (get_or xs i 0) xs
get_d-mem [] i h = absurd (omega arith)
get_d-mem (x ∷ xs) zero h = Memᴰ.head refl
get_d-mem (x ∷ xs) (suc i) h = Memᴰ.tail (get_d-mem xs i (omega arith))

-- a member has a place
pub mem-at : {x : ℕ} (xs : List ℕ) → Memᴰ x xs → (k : ℕ) × (k < length xs) × (get_or xs k 0 ≡ x)
mem-at [] h = absurd (Memᴰ.not-nil h)
mem-at {x = x} (y ∷ xs) h = ⊎_elim (λ e. (zero, omega arith, sym e)) (λ t. let r = mem-at {x = x} xs t in (suc r.0, omega (arith, r.1), r.2)) (Memᴰ.cases_cons h)

pub not-elem : (x : ℕ) (xs : List ℕ) → elem x xs ≡ false → Memᴰ x xs → ⊥
not-elem x xs e h = true≢false (sym (mem-elem x xs h) ∙ e)

-- a part's members

pub mem-take : {x : ℕ} (n : ℕ) (xs : List ℕ) → Memᴰ x (take n xs) → Memᴰ x xs
mem-take {x} n xs h = subst (Memᴰ x) (take-append-drop n xs) (Memᴰ.append_left (drop n xs) h)

pub mem-drop : {x : ℕ} (n : ℕ) (xs : List ℕ) → Memᴰ x (drop n xs) → Memᴰ x xs
mem-drop {x} n xs h = subst (Memᴰ x) (take-append-drop n xs) (Memᴰ.append_right (take n xs) h)

-- members of lists in turn

pub mem-flat : {x : ℕ} (f : ℕ → List ℕ) (ys : List ℕ) → Memᴰ x (flat_map f ys) → (y : ℕ) × Memᴰ y ys × Memᴰ x (f y)
unfolding flat_map
mem-flat f [] h = absurd (Memᴰ.not-nil h)
mem-flat f (y ∷ ys) h =
    ⊎_elim
    (λ a. (y, Memᴰ.head refl, a))
    (λ b. let r = mem-flat f ys b in (r.0, Memᴰ.tail r.1, r.2))
    (Memᴰ.append_cases (f y) h)

pub flat-mem : {x y : ℕ} (f : ℕ → List ℕ) (ys : List ℕ) → Memᴰ y ys → Memᴰ x (f y) → Memᴰ x (flat_map f ys)
unfolding flat_map
flat-mem f [] h k = absurd (Memᴰ.not-nil h)
flat-mem {x} f (z ∷ ys) h k =
    ⊎_elim (λ e. Memᴰ.append_left (flat_map f ys) (subst (λ (w : ℕ). Memᴰ x (f w)) e k)) (λ t. Memᴰ.append_right (f z) (flat-mem f ys t k)) (Memᴰ.cases_cons h)
