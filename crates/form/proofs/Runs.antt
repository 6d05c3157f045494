-- Stores one run after another.
-- Assumes nothing.
use Prim.Native.Nat.{ℕ, suc, ◌+◌}
use native.Mathlib.Omega.{arith}
use native.Mathlib.Nat.{add-zero}
use mathlib.Core.Path.{◌≡◌, sym, ap, ap₂, ◌∙◌}
use mathlib.Core.List.{List, [], ◌∷◌, ◌++◌}
use lib.ListN.{length, set}
use lib.Seq.{sets, length-sets}

-- a run and then another behind it is one run
pub sets-append : (l : List ℕ) (i : ℕ) (xs ys : List ℕ) → sets (sets l i xs) (i + length xs) ys ≡ sets l i (xs ++ ys)
sets-append l i [] ys = ap (λ (k : ℕ). sets l k ys) (add-zero i)
sets-append l i (x ∷ xs) ys =
    ap (λ (k : ℕ). sets (sets (set l i x) (suc i) xs) k ys) {x = i + suc (length xs)} {y = suc i + length xs} (omega arith)
    ∙ sets-append (set l i x) (suc i) xs ys

-- one element behind a run
pub store-more : (d : List ℕ) (at : ℕ) (xs d' : List ℕ) (i v : ℕ) → d' ≡ sets d at xs → i ≡ length xs → set d' (at + i) v ≡ sets d at (xs ++ v ∷ [])
store-more d at xs d' i v e l = ap₂ (λ (x : List ℕ) (k : ℕ). set x (at + k) v) e l ∙ sets-append d at xs (v ∷ [])

-- stores that end alike began with lists of one length
pub sets-size : (d d' : List ℕ) (i j : ℕ) (xs ys : List ℕ) → sets d i xs ≡ sets d' j ys → length d ≡ length d'
sets-size d d' i j xs ys e = sym (length-sets d i xs) ∙ ap length e ∙ length-sets d' j ys
