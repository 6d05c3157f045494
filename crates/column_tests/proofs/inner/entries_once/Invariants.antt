-- The entries left, from the marks at hand, answer as all entries from no mark.
use Rattle.std.proofs.Common.{◌≡◌, drop}
use Rattle.tables.specs.Refusal.{entries_once}
use Rattle.column_tests.proofs.Once.{marked, mark, run}
use Rattle.column_tests.proofs.inner.entries_once.Given as goal

abbrev pub invariant-loop-module : goal.invariant-loop-module
invariant-loop-module l = run marked mark l.marks (drop l.module-index l.entry) ≡ entries_once l.entry
