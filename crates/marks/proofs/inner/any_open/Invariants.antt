-- No place below m is in the first two and out of the third.
use Rattle.std.proofs.Common.{◌≡◌, ℕ, ◌<◌, true}
use Rattle.lists.specs.Words.{has}
use Rattle.marks.proofs.inner.any_open.Given as goal

abbrev pub invariant-loop-m : goal.invariant-loop-m
invariant-loop-m l = (k : ℕ) → k < l.m → has l.first k ≡ true → has l.second k ≡ true → has l.set k ≡ true
