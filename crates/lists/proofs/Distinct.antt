-- Lists without repeats: no two places alike, and no more numbers below n than n.
-- Assumes nothing.
use Rattle.std.specs.Prelude.{◌≡◌, ℕ, zero, suc, ◌<◌, ◌≤◌, Bool, not, eqb, List, [], ◌∷◌, length, get_or}
use mathlib.Core.Path.{refl, sym, subst}
use mathlib.Core.Logic.{⊎_elim}
use mathlib.Core.List.Memᴰ
use mathlib.Core.List.{Memᴰ}
use native.Mathlib.Omega.{arith}
use borrow.Author.Tests.{eqb-true, eqb-false, ne_eqb}
use Rattle.lists.specs.Words.{keep, Distinct}
use Rattle.lists.proofs.Laws.{both, not-true, mem-keep, distinct-keep}
use Rattle.lists.proofs.Members.{get_d-mem}

pub distinct-places : (xs : List ℕ) → Distinct xs → (i j : ℕ) → i < j → j < length xs → get_or xs i 0 ≡ get_or xs j 0 → ⊥
unfolding Distinct
distinct-places [] d i j l h e = omega arith
distinct-places (x ∷ xs) d i zero l h e = omega arith
distinct-places (x ∷ xs) d zero (suc j) l h e = d.0 (subst (λ (y : ℕ). Memᴰ y xs) (sym e) (get_d-mem xs j (omega arith)))
distinct-places (x ∷ xs) d (suc i) (suc j) l h e = distinct-places xs d.1 i j (omega arith) (omega arith) e

-- the others than m
abbrev others : ℕ → ℕ → Bool
others m x = not (eqb x m)

-- a list without m is all others
none_left : (m : ℕ) (xs : List ℕ) → (Memᴰ m xs → ⊥) → keep (others m) xs ≡ xs
none_left m [] n = refl
none_left m (x ∷ xs) n = rw (ne_eqb x m (λ e. n (Memᴰ.head (sym e))), none_left m xs (λ t. n (Memᴰ.tail t)))

-- without m a list is shorter by one at most
one_less : (m : ℕ) (xs : List ℕ) → Distinct xs → length xs ≤ suc (length (keep (others m) xs))
unfolding Distinct
one_less m [] d = omega arith
one_less m (x ∷ xs) d =
    ⊎_elim
    (λ e.
    let q = eqb-true x m e in
    let s : keep (others m) xs ≡ xs = none_left m xs (λ t. d.0 (rw q t)) in
    rw (e, s) (omega arith))
    (λ e. rw e (omega (arith, one_less m xs d.1)))
    (both (eqb x m))

-- distinct numbers below n are n at most
pub few-distinct : (n : ℕ) (xs : List ℕ) → Distinct xs → ((x : ℕ) → Memᴰ x xs → x < n) → length xs ≤ n
few-distinct zero [] d h = omega arith
few-distinct zero (x ∷ xs) d h = absurd (omega (arith, h x (Memᴰ.head refl)))
few-distinct (suc m) xs d h =
    let less : length (keep (others m) xs) ≤ m =
    few-distinct m (keep (others m) xs) (distinct-keep (others m) xs d)
    (λ x t.
    let r = mem-keep (others m) xs t in
    let n = eqb-false x m (not-true (eqb x m) r.1) in
    below x (h x r.0) n) in
    omega (arith, one_less m xs d)
  where
    below : (x : ℕ) → x < suc m → (x ≡ m → ⊥) → x < m
    below x l n = omega (arith, n)

-- distinct numbers below n, of which one isn't among them, are fewer
pub fewer-distinct : (n m : ℕ) (xs : List ℕ) → m < n → (Memᴰ m xs → ⊥) → Distinct xs → ((x : ℕ) → Memᴰ x xs → x < n) → length xs < n
unfolding Distinct
fewer-distinct n m xs l out d h =
    few-distinct n (m ∷ xs) (out, d) (λ x t. ⊎_elim (λ e. rw e l) (λ t. h x t) (Memᴰ.cases_cons t))
