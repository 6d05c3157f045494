-- The values looked at and the values left are all.
use Rattle.std.proofs.Common.{◌≡◌, ℕ, ◌&&◌, ltb, drop}
use Rattle.lists.specs.Words.{every}
use Rattle.column_tests.proofs.inner.under.Given as goal

abbrev pub invariant-loop-x : goal.invariant-loop-x
invariant-loop-x l = (l.fit && every (λ (x : ℕ). ltb x l.bound) (drop l.x-index l.column)) ≡ every (λ (x : ℕ). ltb x l.bound) l.column
