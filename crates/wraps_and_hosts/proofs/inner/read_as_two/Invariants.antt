-- The wraps of the modules so far are written.
-- Assumes nothing.
use Rattle.std.proofs.Common.{◌≡◌, ℕ, ◌<◌, get_or}
use Rattle.entry_run.specs.Actual.{read_as_two}
use Rattle.wraps_and_hosts.proofs.inner.read_as_two.Given as goal

abbrev pub invariant-loop-m : goal.invariant-loop-m
invariant-loop-m l = (k : ℕ) → k < l.m → get_or l.out k 0 ≡ get_or (read_as_two l.plan l.wraps) k 0
