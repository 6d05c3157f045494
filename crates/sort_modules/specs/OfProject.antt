-- The module numbers and the sorted list of a project.
-- Assumes nothing.
use Rattle.std.specs.Prelude.{ℕ, List}
use Rattle.tables.specs.Project.{Project}
use Rattle.sort_modules.specs.Sort.{numbers, sorted}

unfoldable pub numbers_of : Project → List ℕ
numbers_of p = numbers p.dynamic p.normal p.record_module p.record_kind p.record_target p.runtime p.entry

unfoldable pub sorted_of : Project → List ℕ
sorted_of p = sorted p.dynamic p.normal p.record_module p.record_kind p.record_target p.runtime p.entry
