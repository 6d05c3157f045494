-- What the tests 1 to 4 and 10 give of a project, row by row. Each field is named after the column that it is about.
-- Assumes nothing.
use Rattle.std.specs.Prelude.{◌≡◌, ℕ, ◌<◌, ◌≤◌, true, ◌⊎◌, List, length, ◌≢◌, slice_index}
use Rattle.lists.specs.Words.{Distinct}
use Rattle.tables.specs.Project.{Project, missing}
use Rattle.tables.specs.Readings.{modules, chunks, is_normal}
use Rattle.tables.specs.Refusal.{module_limit, chunk_limit, row_limit, newer_fits}
use Rattle.tables.specs.Lookups.{Rising}

-- every row is below n
abbrev pub Below : ℕ → List ℕ → Type 0
Below n column = (i : ℕ) → i < length column → slice_index column i < n

-- every row is below n or the missing mark
abbrev pub BelowOrMissing : ℕ → List ℕ → Type 0
BelowOrMissing n column = (i : ℕ) → i < length column → (slice_index column i < n) ⊎ (slice_index column i ≡ missing)

-- 1: the first column of each list is within the list's limit, and the others are as long
pub record Sizes (p : Project) : Type 0 where
  pub some : 1 ≤ modules p
  pub normal : modules p ≤ module_limit
  pub included : length p.included ≡ modules p
  pub sensitive : length p.sensitive ≡ modules p
  pub reads : length p.reads ≡ modules p
  pub exports : length p.exports ≡ modules p
  pub wrap : length p.wrap ≡ modules p
  pub chunk : length p.chunk ≡ modules p
  pub newer : length p.newer ≡ modules p
  pub record_module : length p.record_module ≤ row_limit
  pub record_kind : length p.record_kind ≡ length p.record_module
  pub record_target : length p.record_target ≡ length p.record_module
  pub dependency_module : length p.dependency_module ≤ row_limit
  pub dependency : length p.dependency ≡ length p.dependency_module
  pub statement_module : length p.statement_module ≤ row_limit
  pub statement_included : length p.statement_included ≡ length p.statement_module
  pub use_statement : length p.use_statement ≤ row_limit
  pub use_record : length p.use_record ≡ length p.use_statement
  pub owner : length p.owner ≤ row_limit
  pub canonical : length p.canonical ≡ length p.owner
  pub chain_symbol : length p.chain_symbol ≤ row_limit
  pub chain_link : length p.chain_link ≡ length p.chain_symbol
  pub reference_statement : length p.reference_statement ≤ row_limit
  pub reference_form : length p.reference_form ≡ length p.reference_statement
  pub reference_symbol : length p.reference_symbol ≡ length p.reference_statement
  pub depended_reference : length p.depended_reference ≤ row_limit
  pub depended : length p.depended ≡ length p.depended_reference
  pub order : chunks p ≤ chunk_limit
  pub member_chunk : length p.member_chunk ≤ row_limit
  pub member : length p.member ≡ length p.member_chunk
  pub import_chunk : length p.import_chunk ≤ row_limit
  pub imports : length p.imports ≡ length p.import_chunk
  pub entry : length p.entry ≤ row_limit
  pub entry_chunk : length p.entry_chunk ≡ length p.entry
  pub seed : length p.seed ≤ row_limit

-- 2: every value is inside its column
pub record Values (p : Project) : Type 0 where
  pub runtime : p.runtime < modules p
  pub dynamic : p.dynamic < 2
  pub normal : Below 2 p.normal
  pub included : Below 2 p.included
  pub sensitive : Below 2 p.sensitive
  pub reads : Below 2 p.reads
  pub exports : Below 3 p.exports
  pub wrap : Below 3 p.wrap
  pub chunk : BelowOrMissing (chunks p) p.chunk
  pub record_module : Below (modules p) p.record_module
  pub record_kind : Below 4 p.record_kind
  pub record_target : BelowOrMissing (modules p) p.record_target
  pub dependency_module : Below (modules p) p.dependency_module
  pub dependency : Below (modules p) p.dependency
  pub statement_module : Below (modules p) p.statement_module
  pub statement_included : Below 2 p.statement_included
  pub use_statement : Below (length p.statement_module) p.use_statement
  pub use_record : Below (length p.record_module) p.use_record
  pub owner : Below (modules p) p.owner
  pub canonical : Below (length p.owner) p.canonical
  pub chain_symbol : Below (length p.owner) p.chain_symbol
  pub chain_link : Below (length p.owner) p.chain_link
  pub reference_statement : Below (length p.statement_module) p.reference_statement
  pub reference_form : Below 3 p.reference_form
  pub reference_symbol : BelowOrMissing (length p.owner) p.reference_symbol
  pub depended_reference : Below (length p.reference_statement) p.depended_reference
  pub depended : Below (length p.owner) p.depended
  pub order : Below missing p.order
  pub member_chunk : Below (chunks p) p.member_chunk
  pub member : Below (modules p) p.member
  pub import_chunk : Below (chunks p) p.import_chunk
  pub imports : Below (chunks p) p.imports
  pub entry : Below (modules p) p.entry
  pub entry_chunk : BelowOrMissing (chunks p) p.entry_chunk
  pub seed : Below (modules p) p.seed

-- 3: the first columns of records, statements, members and imports rise
pub record Rises (p : Project) : Type 0 where
  pub record_module : Rising p.record_module
  pub statement_module : Rising p.statement_module
  pub member_chunk : Rising p.member_chunk
  pub import_chunk : Rising p.import_chunk

-- 4: the rows agree with each other
pub record Agrees (p : Project) : Type 0 where
  -- an external has no record and no statement
  pub record_module : (i : ℕ) → i < length p.record_module → is_normal p.normal (slice_index p.record_module i) ≡ true
  pub statement_module : (i : ℕ) → i < length p.statement_module → is_normal p.normal (slice_index p.statement_module i) ≡ true
  -- a use names a record of its statement's module
  pub use_record : (i : ℕ) → i < length p.use_statement → slice_index p.statement_module (slice_index p.use_statement i) ≡ slice_index p.record_module (slice_index p.use_record i)
  -- a depended row is of form 2
  pub depended_reference : (i : ℕ) → i < length p.depended_reference → slice_index p.reference_form (slice_index p.depended_reference i) ≡ 2
  -- form 0 or 1 has a symbol
  pub reference_symbol : (i : ℕ) → i < length p.reference_form → (slice_index p.reference_form i ≡ 2) ⊎ (slice_index p.reference_symbol i ≢ missing)
  -- no entry twice
  pub entry : Distinct p.entry
  -- no import pair twice
  pub imports : (i j : ℕ) → i < j → j < length p.import_chunk → j < length p.imports → slice_index p.import_chunk i ≡ slice_index p.import_chunk j → slice_index p.imports i ≢ slice_index p.imports j

-- a project that no test refuses
pub record Accepted (p : Project) : Type 0 where
  pub sizes : Sizes p
  pub values : Values p
  pub rises : Rises p
  pub agrees : Agrees p
  -- 10
  pub newer : newer_fits p.newer ≡ true
