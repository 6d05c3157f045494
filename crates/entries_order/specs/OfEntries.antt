-- The expected order of a list of entries of a project, walked one after the other with the marks kept between them.
-- Assumes nothing.
use Rattle.std.specs.Prelude.{ℕ, List}
use Rattle.tables.specs.Project.{Project}
use Rattle.entries_order.specs.Entries.{entries_order}

unfoldable pub expected_of_entries : Project → List ℕ → List ℕ
expected_of_entries p entries = entries_order p.normal p.included p.record_module p.record_kind p.record_target entries
