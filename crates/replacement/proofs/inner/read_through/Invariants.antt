-- The values up to here are read.
use Rattle.std.proofs.Common.{◌≡◌, ℕ, ◌<◌, get_or}
use Rattle.replacement.specs.inner.Passes.{found_at}
use Rattle.replacement.proofs.inner.read_through.Given as goal

abbrev pub invariant-loop-i : goal.invariant-loop-i
invariant-loop-i l = (k : ℕ) → k < l.i → get_or l.out k 0 ≡ found_at l.found (get_or l.column k 0)
