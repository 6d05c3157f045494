-- The values looked at and the values left are all.
use Rattle.std.proofs.Common.{◌≡◌, ℕ, ◌&&◌, eqb, get_or, drop}
use Rattle.lists.specs.Words.{every}
use Rattle.column_tests.proofs.inner.all_at.Given as goal

abbrev pub invariant-loop-x : goal.invariant-loop-x
invariant-loop-x l = (l.fit && every (λ (x : ℕ). eqb (get_or l.values x 0) l.value) (drop l.x-index l.column)) ≡ every (λ (x : ℕ). eqb (get_or l.values x 0) l.value) l.column
