-- An analysed entry: a root with its entry chunk.
-- Assumes nothing.
use Rattle.std.specs.Prelude.{◌≡◌, ℕ, ◌<◌}
use Rattle.tables.specs.Project.{Project}
use Rattle.tables.specs.Readings.{modules, chunks, entry_chunk_of}
use Rattle.table.specs.Table.{read}

-- a root with a row, and its entry chunk
pub record Entry (p : Project) (root chunk : ℕ) : Type 0 where
  pub within : root < modules p
  pub from : chunk ≡ entry_chunk_of p root
  pub inside : chunk < chunks p

-- q is p with other import records, dependencies and members
abbrev pub ReadFrom : Project → Project → Type 0
ReadFrom p q = q ≡ read p q.record_module q.record_kind q.record_target q.dependency q.member
