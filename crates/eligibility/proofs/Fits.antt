-- The columns of an accepted project that eligibility reads fit each other.
-- Assumes nothing.
use Rattle.tables.specs.Project.{Project}
use Rattle.tables.specs.Accepted.{Accepted}
use Rattle.eligibility.specs.Ready.{Kinds}

pub kinds_fit : (p : Project) → Accepted p → Kinds p
kinds_fit p ok = record { includeds = ok.sizes.included; export_kinds = ok.sizes.exports; wraps = ok.sizes.wrap }
