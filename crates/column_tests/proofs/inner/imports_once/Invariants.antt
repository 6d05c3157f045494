-- The pairs left, from the stamps at hand, answer as all pairs from no stamp.
use Rattle.std.proofs.Common.{◌≡◌}
use mathlib.Core.List.{zip}
use Rattle.tables.specs.Refusal.{imports_once}
use Rattle.column_tests.proofs.Once.{stamped, stamp, run}
use Rattle.column_tests.proofs.inner.imports_once.Given as goal

abbrev pub invariant-loop-chunk : goal.invariant-loop-chunk
invariant-loop-chunk l = run stamped stamp l.stamps (zip l.chunk-iterator.a.rest.now l.chunk-iterator.b.rest.now) ≡ imports_once l.import_chunk l.imports
