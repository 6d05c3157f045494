-- No member before k is in both sets.
-- Assumes nothing.
use Rattle.std.proofs.Common.{◌≡◌, ℕ, ◌<◌, true, get_or}
use Rattle.lists.specs.Words.{has}
use Rattle.suffix_rule.proofs.inner.first_in.Given as goal

abbrev pub invariant-loop-k : goal.invariant-loop-k
invariant-loop-k l = (i : ℕ) → i < l.k → has l.first (get_or l.order i 0) ≡ true → has l.second (get_or l.order i 0) ≡ true → ⊥
