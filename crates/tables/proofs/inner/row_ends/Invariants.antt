-- The rows before this one are met.
use Rattle.tables.specs.Lookups.{RowEnds}
use Rattle.tables.proofs.inner.row_ends.Given as goal

abbrev pub invariant-loop-row : goal.invariant-loop-row
invariant-loop-row l = RowEnds l.column l.starts l.row
