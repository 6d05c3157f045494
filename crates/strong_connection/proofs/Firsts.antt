-- The first number that passes a test.
-- Assumes nothing.
use Rattle.std.specs.Prelude.{◌≡◌, ℕ, zero, suc, ◌+◌, ◌<◌, ◌≤◌, Bool, true, false}
use mathlib.Core.Path.{sym, ap, ◌∙◌}
use mathlib.Core.Logic.{⊎_elim}
use mathlib.Core.Bool.{true≢false}
use native.Mathlib.Nat.{eq-or-lt_of_le}
use native.Mathlib.Omega.{arith}
use Rattle.lists.specs.Words.{count_from, up_to, keep, any}
use Rattle.lists.proofs.Laws.{both, mem-any, keep-none, up_to-mem}
use Rattle.tables.specs.Project.{missing}
use Rattle.tables.specs.Readings.{first_of}

-- the first that passes of a run of numbers is the lowest that passes
pub first-keep : (f : ℕ → Bool) (i n x : ℕ) → i ≤ x → x < i + n → f x ≡ true
    → (f (first_of (keep f (count_from i n))) ≡ true) × (first_of (keep f (count_from i n)) ≤ x) × (i ≤ first_of (keep f (count_from i n)))
first-keep f i zero x a b e = absurd (omega arith)
first-keep f i (suc n) x a b e =
    ⊎_elim
    (λ t. rw t (t, a, omega arith))
    (λ t. rw t (⊎_elim (λ q. absurd (true≢false (sym e ∙ sym (ap f q) ∙ t))) (λ q. let r = first-keep f (suc i) n x q (omega arith) e in (r.0, r.1, omega (arith, r.2))) (eq-or-lt_of_le a)))
    (both (f i))

-- the first that passes is one that none before it does
pub first-at : (f : ℕ → Bool) (n i : ℕ) → i < n → any f (up_to i) ≡ false → f i ≡ true → i ≡ first_of (keep f (up_to n))
first-at f n i l none e =
    let r = first-keep f 0 n i (omega arith) (omega arith) e in
    ⊎_elim (λ q. sym q) (λ m. absurd (true≢false (sym (mem-any f (up_to i) (up_to-mem m) r.0) ∙ none))) (eq-or-lt_of_le r.1)

pub first-none : (f : ℕ → Bool) (n : ℕ) → any f (up_to n) ≡ false → missing ≡ first_of (keep f (up_to n))
first-none f n e =
    sym (ap first_of (keep-none f (up_to n) (λ x h. ⊎_elim (λ t. absurd (true≢false (sym (mem-any f (up_to n) h t) ∙ e))) (λ t. t) (both (f x)))))
