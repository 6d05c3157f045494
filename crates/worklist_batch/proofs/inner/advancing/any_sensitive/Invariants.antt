-- None of the modules passed is sensitive.
-- Assumes nothing.
use Rattle.std.proofs.Common.{◌≡◌, ℕ, ◌<◌, true, get_or}
use Rattle.lists.specs.Words.{has}
use Rattle.worklist_batch.proofs.inner.advancing.any_sensitive.Given as goal

abbrev pub invariant-loop-m : goal.invariant-loop-m
invariant-loop-m l = (j : ℕ) → j < l.m-index → has l.sensitive (get_or l.part j 0) ≡ true → ⊥
