-- The test of lent seeds.
-- Assumes nothing.
use Rattle.std.specs.Prelude.{ℕ, Bool, ◌&&◌, List, length, nat_le}
use Rattle.tables.specs.Refusal.{row_limit, below}

-- no "seed without a row", and not "over 16,384 seeds"; n is the module count
abbrev pub seeds_fit : ℕ → List ℕ → Bool
seeds_fit n seeds = nat_le (length seeds) row_limit && below n seeds
