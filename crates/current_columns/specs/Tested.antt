-- The project that a tested table is, and what the tests give of it.
-- Assumes nothing.
use Rattle.tables.specs.Project.{Project}
use Rattle.tables.specs.Accepted.{Accepted}
use Rattle.current_columns.specs.declared.inner.Current.TheInside.{Inside}

abbrev pub tested : Inside → Project
tested c = c.columns

abbrev pub IsAccepted : Inside → Type 0
IsAccepted c = Accepted c.columns
