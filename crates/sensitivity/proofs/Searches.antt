-- The search over a module's statements and their uses.
-- Assumes nothing.
use Rattle.std.specs.Prelude.{◌≡◌, ℕ, ◌+◌, ◌-◌, ◌<◌, Bool, true, cond, List, [], ◌∷◌, map, length, get_or}
use mathlib.Core.Path.{refl, ap}
use native.Mathlib.Omega.{arith}
use borrow.Author.Tests.{ne_eqb}
use Rattle.lists.specs.Words.{any, count_from}
use Rattle.lists.proofs.Laws.{count-step}
use Rattle.tables.specs.Readings.{rows_of, values_of}
use Rattle.tables.specs.Lookups.{FirstRows}
use Rattle.tables.proofs.Rows.{rows-of-run}
use Rattle.threads.proofs.Turns.{at-end, any-turn, any-on}

-- a test of the value that stands at a row
abbrev pub at_row : (ℕ → Bool) → List ℕ → ℕ → Bool
at_row f column row = f (get_or column row 0)

pub any_values : (f : ℕ → Bool) (owner column : List ℕ) (m : ℕ) → any f (values_of owner column m) ≡ any (at_row f column) (rows_of owner m)
unfolding values_of
any_values f owner column m = go (rows_of owner m)
  where
    go : (rows : List ℕ) → any f (map (λ (row : ℕ). get_or column row 0) rows) ≡ any (at_row f column) rows
    go [] = refl
    go (row ∷ rows) = ap (cond (f (get_or column row 0)) true) (go rows)

-- a module's statements are a run of rows
pub module_rows : (column starts : List ℕ) (m : ℕ) → FirstRows column starts → m + 1 < length starts → rows_of column m ≡ count_from (get_or starts m 0) (get_or starts (m + 1) 0 - get_or starts m 0)
module_rows column starts m s l = rows-of-run column m _ _ (s.firsts m (omega arith)) (s.firsts (m + 1) l)

pub ruleset search_steps = (count-step, any_values, ne_eqb, at-end, any-turn, any-on, module_rows)
