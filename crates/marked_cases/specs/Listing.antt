-- The listing of document 01, "One listing, whole", as a project.
-- Assumes nothing.
use Rattle.std.specs.Prelude.{[], ◌∷◌}
use Rattle.tables.specs.Project.{Project, missing}

abbrev pub listing : Project
listing = record {
  runtime = 0;
  dynamic = 0;
  normal = 1 ∷ 1 ∷ 1 ∷ 1 ∷ [];
  included = 1 ∷ 1 ∷ 1 ∷ 1 ∷ [];
  sensitive = 0 ∷ 1 ∷ 1 ∷ 1 ∷ [];
  reads = 0 ∷ 0 ∷ 0 ∷ 0 ∷ [];
  exports = 1 ∷ 1 ∷ 1 ∷ 1 ∷ [];
  wrap = 0 ∷ 0 ∷ 0 ∷ 0 ∷ [];
  chunk = 1 ∷ 0 ∷ 0 ∷ 1 ∷ [];
  newer = missing ∷ missing ∷ missing ∷ missing ∷ [];
  record_module = 1 ∷ 1 ∷ [];
  record_kind = 0 ∷ 0 ∷ [];
  record_target = 2 ∷ 3 ∷ [];
  dependency_module = 1 ∷ 1 ∷ [];
  dependency = 2 ∷ 3 ∷ [];
  statement_module = [];
  statement_included = [];
  use_statement = [];
  use_record = [];
  owner = [];
  canonical = [];
  chain_symbol = [];
  chain_link = [];
  reference_statement = [];
  reference_form = [];
  reference_symbol = [];
  depended_reference = [];
  depended = [];
  order = 1 ∷ 0 ∷ [];
  member_chunk = 0 ∷ 0 ∷ 1 ∷ 1 ∷ [];
  member = 2 ∷ 1 ∷ 0 ∷ 3 ∷ [];
  import_chunk = 0 ∷ [];
  imports = 1 ∷ [];
  entry = 1 ∷ [];
  entry_chunk = 0 ∷ [];
  seed = [];
}
