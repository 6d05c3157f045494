-- Lines as a loop over the bytes sees them.
-- Assumes nothing.
use Rattle.std.specs.Prelude.{ℕ, suc, cond, ◌==◌, nat_lt}
use Rattle.lists.specs.Words.{is_zero}
use Rattle.names.specs.Names.{printable}

-- the length of the line at hand after a byte, from that before it; 65 once something is wrong
abbrev pub width_after : ℕ → ℕ → ℕ
width_after w b =
    cond (nat_lt 64 w) 65
    (cond (b == 10) (cond (is_zero w) 65 0)
    (cond (printable b) (suc w) 65))
