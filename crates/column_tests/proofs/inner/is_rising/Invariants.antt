-- The pairs compared and the rows left are all.
use Rattle.std.proofs.Common.{◌≡◌, ◌&&◌}
use Rattle.std.specs.Slice.Iter.{windows_rest, windows_size}
use Rattle.tables.specs.Refusal.{rises}
use Rattle.column_tests.proofs.inner.is_rising.Given as goal

abbrev pub invariant-loop-pair : goal.invariant-loop-pair
invariant-loop-pair l = record {
  two : windows_size l.pair-iterator ≡ 2;
  left : (l.rising && rises (windows_rest l.pair-iterator)) ≡ rises l.column;
}
