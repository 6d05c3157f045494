-- What has passed before test 4 leaves what it asks.
-- Assumes nothing.
use Rattle.std.specs.Prelude.{◌≡◌, ℕ, ◌≤◌, true, List}
use native.Mathlib.Nat.{lt_of_lt_of_le}
use Rattle.tables.specs.Project.{Project}
use Rattle.tables.specs.Accepted.{Below}
use Rattle.tables.specs.Refusal.{module_limit, chunk_limit, sizes_fit, values_fit}
use Rattle.tables.proofs.Accepted.{sizes-fit, values-fit}

below_more : (m n : ℕ) (column : List ℕ) → m ≤ n → Below m column → Below n column
below_more m n column l h i k = lt_of_lt_of_le (h i k) l

module _ (p : Project) (e : sizes_fit p ≡ true) (f : values_fit p ≡ true) where
  pub entries-in : Below module_limit p.entry
  entries-in = below_more _ _ p.entry (sizes-fit p e).normal (values-fit p f).entry

  pub import-chunks-in : Below chunk_limit p.import_chunk
  import-chunks-in = below_more _ _ p.import_chunk (sizes-fit p e).order (values-fit p f).import_chunk

  pub imports-in : Below chunk_limit p.imports
  imports-in = below_more _ _ p.imports (sizes-fit p e).order (values-fit p f).imports
