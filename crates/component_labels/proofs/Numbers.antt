-- Numbers of chunks: how they are given, and that they fall all the way around no cycle.
-- Assumes nothing.
use Rattle.std.specs.Prelude.{◌≡◌, ℕ, zero, suc, ◌+◌, ◌≤◌, true, ◌⊎◌, List, [], ◌∷◌, get_or, set}
use mathlib.Core.Path.{refl}
use mathlib.Core.Logic.{inl, inr, ⊎_elim}
use mathlib.Core.List.{Memᴰ}
use native.Mathlib.Decide.{dec_le}
use native.Mathlib.Omega.{arith}
use Rattle.lists.specs.Words.{is_zero, zeros}
use Rattle.walk.specs.Reach.{Reach, here, step, Reach⁺}
use Rattle.walk.proofs.Visits.{set-zeros}
use Rattle.component_labels.specs.inner.Labelling.{Numbered}

-- giving numbers

-- a number leaves no more places without one
zeros-set : (xs : List ℕ) (m y : ℕ) → (y ≡ 0 → ⊥) → zeros (set xs m y) ≤ zeros xs
zeros-set xs m zero k = absurd (k refl)
zeros-set [] m (suc y) k = omega arith
zeros-set (zero ∷ xs) zero (suc y) k = omega arith
zeros-set (suc x ∷ xs) zero (suc y) k = omega arith
zeros-set (zero ∷ xs) (suc m) (suc y) k = omega (arith, zeros-set xs m (suc y) k)
zeros-set (suc x ∷ xs) (suc m) (suc y) k = zeros-set xs m (suc y) k

-- m is entered, what it leads to is numbered, and then m
pub numbered-left : (last count m : ℕ) (old numbers : List ℕ) → is_zero (get_or old m 1) ≡ true → Numbered last (set old m 1) count numbers → Numbered last old (count + 1) (set numbers m (count + 1))
numbered-left last count m old numbers e v =
    let z = set-zeros old m e in
    let w = zeros-set numbers m (count + 1) (λ q. omega arith) in
    record { on = omega (arith, v.on); few = omega (arith, v.few) }

-- falling numbers

module _ (succ : ℕ → List ℕ) (num : ℕ → ℕ) where
  -- a path from c to d by an edge along which the numbers don't fall
  pub record Rise (c d : ℕ) : Type 0 where
    pub source : ℕ
    pub target : ℕ
    pub edge : Memᴰ target (succ source)
    pub rises : num source ≤ num target
    pub there : Reach succ c target
    pub back : Reach succ target d

  after : {m y d : ℕ} → Memᴰ y (succ m) → Rise y d → Rise m d
  after s r = record { source = r.source; target = r.target; edge = r.edge; rises = r.rises; there = step s r.there; back = r.back }

  here-rise : {m y d : ℕ} → Memᴰ y (succ m) → num m ≤ num y → Reach succ y d → Rise m d
  here-rise {m} {y} s h p = record { source = m; target = y; edge = s; rises = h; there = step s (here refl); back = p }

  fall-or-rise : {c d : ℕ} → Reach succ c d → (num d ≤ num c) ⊎ Rise c d
  fall-or-rise (here e) = inl (rw e (omega arith))
  fall-or-rise (step {m} {y} {x} s p) = ⊎_elim (λ h. first h (dec_le (num m) (num y))) (λ r. inr (after s r)) (fall-or-rise p)
    where
      first : num x ≤ num y → Dec (num m ≤ num y) → (num x ≤ num m) ⊎ Rise m x
      first h (yes q) = inr (here-rise s q p)
      first h (no k) = inl (omega arith)

  -- a cycle has such an edge
  pub circle-rises : (c : ℕ) → Reach⁺ succ c c → Rise c c
  unfolding Reach⁺
  circle-rises c p = ⊎_elim (λ h. here-rise p.1 h p.2) (λ r. after p.1 r) (fall-or-rise p.2)
