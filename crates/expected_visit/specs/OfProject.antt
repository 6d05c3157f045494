-- The expected order of an entry of a project.
-- Assumes nothing.
use Rattle.std.specs.Prelude.{ℕ, List}
use Rattle.tables.specs.Project.{Project}
use Rattle.expected_visit.specs.Expected.{expected}

unfoldable pub expected_of : Project → ℕ → List ℕ
expected_of p root = expected p.normal p.included p.record_module p.record_kind p.record_target root
