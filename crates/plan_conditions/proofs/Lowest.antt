-- The lowest number below n that passes a test.
-- Assumes nothing.
use Rattle.std.specs.Prelude.{◌≡◌, ℕ, zero, suc, ◌+◌, ◌<◌, ◌≤◌, Bool, true, false, Option, None, Some}
use mathlib.Core.Path.{sym, ap, subst, ◌∙◌}
use mathlib.Core.Logic.{⊎_elim}
use mathlib.Core.Bool.{true≢false}
use native.Mathlib.Omega.{arith}
use native.Mathlib.Decide.{ℕ_discrete}
use Rattle.lists.specs.Words.{count_from, up_to, keep}
use Rattle.lists.proofs.Laws.{both, mem-up_to, keep-none, keep-cong}
use Rattle.plan_conditions.specs.Conditions.{first, lowest}

-- r passes, and none of those from i to it
first-is : (f : ℕ → Bool) (i n r : ℕ) → i ≤ r → r < i + n → f r ≡ true → ((k : ℕ) → i ≤ k → k < r → f k ≡ false) → first (keep f (count_from i n)) ≡ Some r
first-is f i zero r a b e none = absurd (omega arith)
first-is f i (suc n) r a b e none =
    ⊎_elim (λ q. rw q (ap Some (go q (ℕ_discrete i r))))
    (λ q. rw q (first-is f (suc i) n r (past q (ℕ_discrete i r)) (omega arith) e (λ k l h. none k (omega arith) h)))
    (both (f i))
  where
    go : f i ≡ true → Dec (i ≡ r) → i ≡ r
    go q (yes z) = z
    go q (no z) = absurd (true≢false (sym q ∙ none i (omega arith) (omega arith)))

    past : f i ≡ false → Dec (i ≡ r) → suc i ≤ r
    past q (yes z) = absurd (true≢false (sym e ∙ subst (λ (x : ℕ). f x ≡ false) z q))
    past q (no z) = omega arith

pub lowest-is : (f : ℕ → Bool) (n r : ℕ) → r < n → f r ≡ true → ((k : ℕ) → k < r → f k ≡ false) → lowest f n ≡ Some r
lowest-is f n r l e none = first-is f zero n r (omega arith) (omega arith) e (λ k a h. none k h)

pub lowest-none : (f : ℕ → Bool) (n : ℕ) → ((k : ℕ) → k < n → f k ≡ false) → lowest f n ≡ None
lowest-none f n none = ap first (keep-none f (up_to n) (λ x h. none x (mem-up_to h)))

-- a lowest one passes, is below n, and none below it passes
pub record Lowest (f : ℕ → Bool) (n r : ℕ) : Type 0 where
  pub inside : r < n
  pub holds : f r ≡ true
  pub first : (k : ℕ) → k < r → f k ≡ false

-- the same of those from i on
record FirstFrom (f : ℕ → Bool) (i n r : ℕ) : Type 0 where
  from : i ≤ r
  inside : r < i + n
  holds : f r ≡ true
  first : (k : ℕ) → i ≤ k → k < r → f k ≡ false

first_found : (f : ℕ → Bool) (i n r : ℕ) → first (keep f (count_from i n)) ≡ Some r → FirstFrom f i n r
first_found f i zero r h = cc
first_found f i (suc n) r h = ⊎_elim here (λ q. later q (first_found f (suc i) n r (rw q at h))) (both (f i))
  where
    here : f i ≡ true → FirstFrom f i (suc n) r
    here q =
        let y : ◌≡◌ {A = Option ℕ} (Some i) (Some r) = rw q at h in
        let z : i ≡ r = cc in
        subst (FirstFrom f i (suc n)) z (record { from = omega arith; inside = omega arith; holds = q; first = λ k a b. absurd (omega arith) })

    later : f i ≡ false → FirstFrom f (suc i) n r → FirstFrom f i (suc n) r
    later q g = record { from = omega (arith, g.from); inside = omega (arith, g.inside); holds = g.holds; first = λ k a b. go k (ℕ_discrete i k) a (λ l. g.first k l b) }
      where
        go : (k : ℕ) → Dec (i ≡ k) → i ≤ k → (suc i ≤ k → f k ≡ false) → f k ≡ false
        go k (yes y) a g = subst (λ (x : ℕ). f x ≡ false) y q
        go k (no y) a g = g (omega arith)

pub lowest-found : (f : ℕ → Bool) (n r : ℕ) → lowest f n ≡ Some r → Lowest f n r
lowest-found f n r h = let g = first_found f zero n r h in record { inside = omega (arith, g.inside); holds = g.holds; first = λ k l. g.first k (omega arith) l }

-- where there is none none passes
pub lowest-missing : (f : ℕ → Bool) (n k : ℕ) → lowest f n ≡ None → k < n → f k ≡ false
lowest-missing f n k e l = go zero n e (omega arith) (omega arith)
  where
    go : (i n : ℕ) → first (keep f (count_from i n)) ≡ None → i ≤ k → k < i + n → f k ≡ false
    go i zero e a b = absurd (omega arith)
    go i (suc n) e a b = ⊎_elim (λ q. absurd (some q)) (λ q. past q (ℕ_discrete i k) (λ l. go (suc i) n (rw q at e) l (omega arith))) (both (f i))
      where
        some : f i ≡ true → ⊥
        some q = let y : ◌≡◌ {A = Option ℕ} (Some i) None = rw q at e in cc

        past : f i ≡ false → Dec (i ≡ k) → (suc i ≤ k → f k ≡ false) → f k ≡ false
        past q (yes z) g = subst (λ (x : ℕ). f x ≡ false) z q
        past q (no z) g = g (omega arith)

-- tests that agree below n have the same lowest
pub lowest-cong : (f g : ℕ → Bool) (n : ℕ) → ((k : ℕ) → k < n → f k ≡ g k) → lowest f n ≡ lowest g n
lowest-cong f g n h = ap first (keep-cong f g (up_to n) (λ x m. h x (mem-up_to m)))
