-- The ways of the modules so far are written.
-- Assumes nothing.
use Rattle.std.proofs.Common.{◌≡◌, ℕ, ◌<◌, get_or}
use Rattle.triggers.specs.inner.Columns.{way_of}
use Rattle.triggers.proofs.inner.write_ways.Given as goal

abbrev pub invariant-loop-m : goal.invariant-loop-m
invariant-loop-m l = (k : ℕ) → k < l.m → get_or l.ways k 0 ≡ way_of l.columns.normal l.columns.included l.wraps k
