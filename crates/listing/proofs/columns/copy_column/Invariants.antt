use Rattle.std.proofs.Common.{◌≡◌}
use Rattle.std.proofs.lemmas.List.Edits.{sets}
use Rattle.listing.specs.inner.Columns.{stripe}
use Rattle.listing.proofs.columns.copy_column.Given as goal

abbrev pub invariant-loop-r : goal.invariant-loop-r
invariant-loop-r l = l.columns ≡ sets l.fn.columns l.to (stripe l.w l.first l.r l.rows)
