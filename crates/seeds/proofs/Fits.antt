-- The test of lent seeds, from what a loop over them has found, and what it says of them.
-- Assumes nothing.
use Rattle.std.specs.Prelude.{◌≡◌, ℕ, ◌<◌, ◌≤◌, Bool, true, false, ◌&&◌, ltb, leb, List, length, get_or}
use mathlib.Core.Path.{sym, ap, ◌∙◌}
use borrow.Author.Tests.{lt-ltb, le-ltb, le-leb}
use Rattle.lists.proofs.Laws.{and-out, and_parts}
use Rattle.tables.specs.Refusal.{row_limit, below}
use Rattle.tables.specs.Accepted.{Below}
use Rattle.tables.proofs.Accepted.{below_rows}
use Rattle.tables.proofs.Scan.{rows_pass, row-fails}
use Rattle.seeds.specs.Seeds.{seeds_fit}

module _ (n : ℕ) (seeds : List ℕ) where
  -- one has no row
  pub no_row : (k : ℕ) → k < length seeds → n ≤ get_or seeds k 0 → seeds_fit n seeds ≡ false
  unfolding below
  no_row k l h = and-out (leb (length seeds) row_limit) (below n seeds) (sym (row-fails (λ (x : ℕ). ltb x n) seeds k l (le-ltb (get_or seeds k 0) n h)))

  -- each of the few has one
  pub all_fit : (k : ℕ) → length seeds ≤ row_limit → length seeds ≤ k → ((i : ℕ) → i < k → get_or seeds i 0 < n) → seeds_fit n seeds ≡ true
  unfolding below
  all_fit k few end h =
      ap (λ (b : Bool). b && below n seeds) (le-leb (length seeds) row_limit few)
      ∙ sym (rows_pass (λ (x : ℕ). ltb x n) seeds k end (λ i l. lt-ltb (get_or seeds i 0) n (h i l)))

  -- seeds that fit are modules
  pub fits_below : seeds_fit n seeds ≡ true → Below n seeds
  fits_below fits = below_rows n seeds (and_parts (leb (length seeds) row_limit) (below n seeds) fits).1
