-- The columns of an accepted project fit each other.
-- Assumes nothing.
use mathlib.Core.Path.{refl}
use Rattle.tables.specs.Project.{Project}
use Rattle.tables.specs.Readings.{modules}
use Rattle.tables.specs.Accepted.{Accepted}
use Rattle.sort_visit.specs.Visit.{Fit}

pub accepted_fit : (p : Project) → Accepted p → Fit p (modules p)
accepted_fit p a = record {
  size = refl;
  kinds = a.sizes.record_kind;
  targets = a.sizes.record_target;
  rising = a.rises.record_module;
  within = a.values.record_target;
  few = a.sizes.normal;
  rows = a.sizes.record_module;
}
