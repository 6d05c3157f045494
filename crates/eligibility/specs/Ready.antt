-- What functions on columns ask.
-- Assumes nothing.
use Rattle.std.specs.Prelude.{◌≡◌, length}
use Rattle.tables.specs.Project.{Project}
use Rattle.tables.specs.Readings.{modules}

-- the columns that eligibility reads fit each other
pub record Kinds (p : Project) : Type 0 where
  pub includeds : length p.included ≡ modules p
  pub export_kinds : length p.exports ≡ modules p
  pub wraps : length p.wrap ≡ modules p
