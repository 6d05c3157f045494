-- A column that the test finds rising rises.
-- Assumes nothing.
use Rattle.std.specs.Prelude.{◌≡◌, ℕ, zero, suc, ◌≤◌, true, leb, ltb, List, [], ◌∷◌, length, get_or}
use mathlib.Core.Path.{ap}
use native.Mathlib.Nat.{le_trans, le_refl, le_of_eq}
use native.Mathlib.Omega.{arith}
use borrow.Author.Tests.{leb-true}
use Rattle.std.specs.List.Sorted.{IsPartitionedBy}
use Rattle.std.proofs.lemmas.List.Sorted.{IsPartitionedBy-ltb}
use Rattle.lists.proofs.Laws.{and_parts, get_d-in}
use Rattle.tables.specs.Lookups.{Rising}
use Rattle.tables.specs.Refusal.{rises}

rising-cons : (x y : ℕ) (ys : List ℕ) → x ≤ y → Rising (y ∷ ys) → Rising (x ∷ y ∷ ys)
unfolding Rising
rising-cons x y ys h r zero zero l k = le_refl x
rising-cons x y ys h r zero (suc q) l k = le_trans h (r 0 q (omega arith) (omega arith))
rising-cons x y ys h r (suc p) zero l k = absurd (omega arith)
rising-cons x y ys h r (suc p) (suc q) l k = r p q (omega arith) (omega arith)

rising-few : (xs : List ℕ) → length xs ≤ 1 → Rising xs
unfolding Rising
rising-few xs few p q l k = le_of_eq (ap (λ (i : ℕ). get_or xs i 0) (let e : p ≡ q = omega arith in e))

pub rises-rising : (xs : List ℕ) → rises xs ≡ true → Rising xs
unfolding rises
rises-rising [] e = rising-few [] (omega arith)
rises-rising (x ∷ []) e = rising-few (x ∷ []) (omega arith)
rises-rising (x ∷ y ∷ ys) e =
    let b = and_parts (leb x y) (rises (y ∷ ys)) e in
    rising-cons x y ys (leb-true x y b.0) (rises-rising (y ∷ ys) b.1)

-- its rows below x stand before the others
pub rising-parted : (xs : List ℕ) (x : ℕ) → Rising xs → IsPartitionedBy (λ y. ltb y x) xs
unfolding Rising
rising-parted xs x r =
    IsPartitionedBy-ltb (λ y. y) xs x
    (λ i j d l h. rw (get_d-in xs i d 0 (omega arith), get_d-in xs j d 0 h) (r i j l h))
