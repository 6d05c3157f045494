-- The numbers so far are put in, and the other places are as they were.
-- Assumes nothing.
use Rattle.std.proofs.Common.{◌≡◌, ℕ, ◌<◌, ◌≤◌, slice_index_or}
use Rattle.module_keys.specs.inner.Filling.{place_by}
use Rattle.module_keys.proofs.inner.put_numbers.Given as goal

abbrev pub invariant-loop-m : goal.invariant-loop-m
invariant-loop-m l = record {
  put : (k : ℕ) → k < l.m → slice_index_or l.places k 0 ≡ place_by l.groups l.numbers l.fn.places k;
  rest : (k : ℕ) → l.m ≤ k → slice_index_or l.places k 0 ≡ slice_index_or l.fn.places k 0;
}
