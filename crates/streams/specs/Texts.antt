-- What reading a project's text from an input gives.
-- Assumes nothing.
use Rattle.std.specs.Prelude.{ℕ, ◌<◌, List, length, Option, Result}
use Rattle.std.specs.Io.KnownBytes.{Consumes, IsAtEnd}
use Rattle.tables.specs.declared.Refusal.{Refusal}
use Rattle.table.specs.declared.Table.{Table}
use Rattle.listing.specs.AsTable.{ReadText}

-- the table of what was read: the whole input, if a project's text may be so long
abbrev pub ReadsTable : Option (List ℕ) → Option (List ℕ) → Result Table Refusal → Type 0
ReadsTable old new r = (s : List ℕ) × Consumes old new s × (length s < 65537 → IsAtEnd new) × ReadText s r
