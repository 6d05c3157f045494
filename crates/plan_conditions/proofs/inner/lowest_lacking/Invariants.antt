-- No member below m is lacking.
-- Assumes nothing.
use Rattle.std.proofs.Common.{◌≡◌, ℕ, ◌<◌, false, not, ◌&&◌}
use Rattle.lists.specs.Words.{has}
use Rattle.plan_conditions.proofs.inner.lowest_lacking.Given as goal

abbrev pub invariant-loop-m : goal.invariant-loop-m
invariant-loop-m l = (i : ℕ) → i < l.m → (has l.asked i && not (has l.held i)) ≡ false
