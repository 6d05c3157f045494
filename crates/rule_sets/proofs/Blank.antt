-- Marks that are all 0.
-- Assumes nothing.
use Rattle.std.specs.Prelude.{◌≡◌, ℕ, true, not, replicate}
use mathlib.Core.Path.{sym, ap, ◌∙◌}
use mathlib.Core.Bool.{false≢true}
use Rattle.lists.specs.Words.{is_zero, has}
use Rattle.lists.proofs.Fronts.{zeros-at}

-- nothing is marked
pub blank-none : (n m : ℕ) → has (replicate n 0) m ≡ true → ⊥
blank-none n m e = false≢true (sym (ap (λ (x : ℕ). not (is_zero x)) (zeros-at n m)) ∙ e)
