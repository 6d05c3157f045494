-- A loop over rows that stops at the first that fails computes `every`.
-- Assumes nothing.
use Rattle.std.specs.Prelude.{◌≡◌, ℕ, suc, ◌<◌, ◌≤◌, Bool, true, false, List, [], ◌∷◌, length, get_or}
use mathlib.Core.Path.{refl, sym, ◌∙◌}
use mathlib.Core.Logic.{⊎_elim}
use mathlib.Core.Bool.{true≢false}
use native.Mathlib.Omega.{arith}
use Rattle.lists.specs.Words.{every}
use Rattle.lists.proofs.Laws.{both}
use Rattle.lists.proofs.Tests.{every-at}

-- one that fails
fails : (a : Bool) → (a ≡ true → ⊥) → false ≡ a
fails a n = ⊎_elim (λ e. absurd (n e)) (λ e. sym e) (both a)

at_every : (f : ℕ → Bool) (xs : List ℕ) → ((k : ℕ) → k < length xs → f (get_or xs k 0) ≡ true) → every f xs ≡ true
at_every f [] h = refl
at_every f (x ∷ xs) h = rw (h 0 (omega arith)) (at_every f xs (λ k l. h (suc k) (omega arith)))

module _ (f : ℕ → Bool) (xs : List ℕ) (i : ℕ) where
  -- all rows of a column passed
  pub rows_pass : length xs ≤ i → ((k : ℕ) → k < i → f (get_or xs k 0) ≡ true) → true ≡ every f xs
  rows_pass l h = sym (at_every f xs (λ k m. h k (omega arith)))

  -- a row of a column failed
  pub row-fails : i < length xs → f (get_or xs i 0) ≡ false → false ≡ every f xs
  row-fails l e = fails (every f xs) (λ t. true≢false (sym (every-at f xs 0 t i l) ∙ e))
