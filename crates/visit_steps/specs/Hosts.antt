-- The hosts that are noted.
-- Assumes nothing.
use Rattle.std.specs.Prelude.{ℕ, cond, List, ◌==◌, slice_set}

-- "if it isn't the host, the host is noted"
abbrev pub noted : ℕ → List ℕ → ℕ → List ℕ
noted host hosts m = cond (m == host) hosts (slice_set hosts m host)
