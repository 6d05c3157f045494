-- An entry of a project, and room for its run, are those of it with its members as they are read.
-- Assumes nothing.
use Rattle.std.specs.Prelude.{ℕ, List}
use Rattle.tables.specs.Project.{Project}
use Rattle.tables.specs.Readings.{entry_chunk_of}
use Rattle.tables.specs.Accepted.{Accepted}
use Rattle.table.specs.Table.{read}
use Rattle.arrangement.specs.OfProject.{named}
use Rattle.arrangement.proofs.OfProject.{named-accepted}
use Rattle.analysed_entries.specs.inner.Entries.{Entry}
use Rattle.entry_run.specs.inner.OverTable.{Listing}

module _ (p : Project) (names : List ℕ) where
  pub entry_named : {root chunk : ℕ} → Entry p root chunk → Entry (named p names) root chunk
  unfolding named read entry_chunk_of
  entry_named e = record { within = e.within; from = e.from; inside = e.inside }

  pub listing-named : {root chunk order hosts : ℕ} → Accepted p × Entry p root chunk × Listing p order hosts
      → Accepted (named p names) × Entry (named p names) root chunk × Listing (named p names) order hosts
  unfolding named read
  listing-named (a, e, l) = (named-accepted p a names, entry_named e, record { size = l.size; room = l.room })
