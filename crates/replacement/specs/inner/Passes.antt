-- What the passes ask and ensure.
-- Assumes nothing.
use Rattle.std.specs.Prelude.{◌≡◌, true, cond, List, ℕ, ◌≤◌, ◌<◌, length, get_or, ltb}
use Rattle.tables.specs.Refusal.{module_limit, newer_fits}
use Rattle.replacement.specs.Replacement.{latest}

-- what is read for the modules from m on is found
pub record Found (newer found : List ℕ) (m : ℕ) : Type 0 where
  pub fits : newer_fits newer ≡ true
  pub few : length newer ≤ module_limit
  pub size : length found ≡ length newer
  pub later : (i : ℕ) → m ≤ i → i < length newer → get_or found i 0 ≡ latest newer i

-- what is read for a value, by what was found
abbrev pub found_at : List ℕ → ℕ → ℕ
found_at found m = cond (ltb m (length found)) (get_or found m 0) m
