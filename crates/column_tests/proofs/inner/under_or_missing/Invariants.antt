-- The values looked at and the values left are all.
use Rattle.std.proofs.Common.{◌≡◌, ℕ, ◌&&◌, ◌||◌, ltb, eqb, drop}
use Rattle.lists.specs.Words.{every}
use Rattle.tables.specs.Project.{missing}
use Rattle.column_tests.proofs.inner.under_or_missing.Given as goal

abbrev pub invariant-loop-x : goal.invariant-loop-x
invariant-loop-x l = (l.fit && every (λ (x : ℕ). ltb x l.bound || eqb x missing) (drop l.x-index l.column)) ≡ every (λ (x : ℕ). ltb x l.bound || eqb x missing) l.column
