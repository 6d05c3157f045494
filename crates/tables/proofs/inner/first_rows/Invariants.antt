-- Each place before x has its first row.
use Rattle.std.proofs.Common.{length}
use Rattle.tables.specs.Lookups.{RowEnds}
use Rattle.tables.proofs.Starts.{Carried}
use Rattle.tables.proofs.inner.first_rows.Given as goal

abbrev pub invariant-loop-x : goal.invariant-loop-x
invariant-loop-x l = RowEnds l.column l.starts (length l.column) × Carried l.column l.starts l.x
