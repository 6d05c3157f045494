-- The arrangement of a project's members, and the project that is read where it has names.
-- Assumes nothing.
use Rattle.std.specs.Prelude.{ℕ, cond, List, length}
use Rattle.lists.specs.Words.{is_zero}
use Rattle.tables.specs.Project.{Project}
use Rattle.tables.specs.Readings.{chunks}
use Rattle.table.specs.declared.Table.{Table}
use Rattle.table.specs.Table.{read, Lent, lent, lent_with}
use Rattle.sort_modules.specs.OfProject.{numbers_of}
use Rattle.module_keys.specs.Keys.{key_of}
use Rattle.arrangement.specs.Arrangement.{arranged}

-- the key of a module of a project with these names, "by module number from the sort"
unfoldable pub key_in : Project → List ℕ → ℕ → List ℕ
key_in p names m = key_of names p.normal p.record_module p.sensitive (numbers_of p) m

-- the member column, arranged
unfoldable pub arranged_of : Project → List ℕ → List ℕ
arranged_of p names = arranged (key_in p names) (chunks p) p.member_chunk p.member

-- the members as they are read: "in this arrangement exactly if the project has names"
unfoldable pub members_read : Project → List ℕ → List ℕ
members_read p names = cond (is_zero (length names)) p.member (arranged_of p names)

-- the project as it is read
unfoldable pub named : Project → List ℕ → Project
named p names = read p p.record_module p.record_kind p.record_target p.dependency (members_read p names)

-- what was lent, its members as they are read
abbrev pub named_lent : List ℕ → Lent → Lent
named_lent names t = record { refused = t.refused; project = named t.project names }

-- a table as it was lent, its members as they are read
abbrev pub lent_named : ℕ → ℕ → List ℕ → List ℕ → List ℕ → Lent
lent_named runtime dynamic bounds columns names = named_lent names (lent runtime dynamic bounds columns names)

-- a table as it was lent, with its import records beside it, its members as they are read
abbrev pub lent_named_with : ℕ → ℕ → List ℕ → List ℕ → List ℕ → List ℕ → List ℕ → List ℕ → Lent
lent_named_with runtime dynamic bounds columns names importers kinds targets = named_lent names (lent_with runtime dynamic bounds columns names importers kinds targets)

-- a table as it is lent, its members as they are read
abbrev pub as_named : Table → Lent
as_named t = lent_named_with t.runtime t.dynamic t.bounds.now t.columns.now t.names.now t.importers.now t.kinds.now t.targets.now
