-- A table: where each column starts, with where the last ends, and all columns one after the other.
-- Assumes nothing.
use Rattle.std.specs.Prelude.{Bool, true, false, cond, ◌&&◌, List, [], ℕ, ◌+◌, ◌-◌, length, get_or, take, drop, eqb, leb, Option, Some}
use Rattle.tables.specs.Project.{Project}
use Rattle.tables.specs.Readings.{modules}
use Rattle.tables.specs.Refusal.{rises, refusal}
use Rattle.tables.specs.declared.Refusal.{Refusal}
use Rattle.tables.specs.declared.Refusal.TheVariants.{ListSize, ColumnValue}
use Rattle.replacement.specs.Replacement.{as_read}
use Rattle.names.specs.Names.{names_sized, names_in}

-- the part from one place to another, empty where they don't fit
unfoldable pub part : List ℕ → ℕ → ℕ → List ℕ
part xs start end = cond (leb start end && leb end (length xs)) (take (end - start) (drop start xs)) []

-- column k
unfoldable pub column_at : List ℕ → List ℕ → ℕ → List ℕ
column_at bounds columns k = part columns (get_or bounds k 0) (get_or bounds (k + 1) 0)

-- the project of a table
unfoldable pub table : ℕ → ℕ → List ℕ → List ℕ → Project
table runtime dynamic bounds columns =
    record {
      runtime = runtime;
      dynamic = dynamic;
      normal = column_at bounds columns 0;
      included = column_at bounds columns 1;
      sensitive = column_at bounds columns 2;
      reads = column_at bounds columns 3;
      exports = column_at bounds columns 4;
      wrap = column_at bounds columns 5;
      chunk = column_at bounds columns 6;
      newer = column_at bounds columns 7;
      record_module = column_at bounds columns 8;
      record_kind = column_at bounds columns 9;
      record_target = column_at bounds columns 10;
      dependency_module = column_at bounds columns 11;
      dependency = column_at bounds columns 12;
      statement_module = column_at bounds columns 13;
      statement_included = column_at bounds columns 14;
      use_statement = column_at bounds columns 15;
      use_record = column_at bounds columns 16;
      owner = column_at bounds columns 17;
      canonical = column_at bounds columns 18;
      chain_symbol = column_at bounds columns 19;
      chain_link = column_at bounds columns 20;
      reference_statement = column_at bounds columns 21;
      reference_form = column_at bounds columns 22;
      reference_symbol = column_at bounds columns 23;
      depended_reference = column_at bounds columns 24;
      depended = column_at bounds columns 25;
      order = column_at bounds columns 26;
      member_chunk = column_at bounds columns 27;
      member = column_at bounds columns 28;
      import_chunk = column_at bounds columns 29;
      imports = column_at bounds columns 30;
      entry = column_at bounds columns 31;
      entry_chunk = column_at bounds columns 32;
      seed = column_at bounds columns 33;
    }

-- a project with other import records, dependencies and members in the place of its own
unfoldable pub read : Project → List ℕ → List ℕ → List ℕ → List ℕ → List ℕ → Project
read p importers kinds targets dependencies members =
    record {
      runtime = p.runtime;
      dynamic = p.dynamic;
      normal = p.normal;
      included = p.included;
      sensitive = p.sensitive;
      reads = p.reads;
      exports = p.exports;
      wrap = p.wrap;
      chunk = p.chunk;
      newer = p.newer;
      record_module = importers;
      record_kind = kinds;
      record_target = targets;
      dependency_module = p.dependency_module;
      dependency = dependencies;
      statement_module = p.statement_module;
      statement_included = p.statement_included;
      use_statement = p.use_statement;
      use_record = p.use_record;
      owner = p.owner;
      canonical = p.canonical;
      chain_symbol = p.chain_symbol;
      chain_link = p.chain_link;
      reference_statement = p.reference_statement;
      reference_form = p.reference_form;
      reference_symbol = p.reference_symbol;
      depended_reference = p.depended_reference;
      depended = p.depended;
      order = p.order;
      member_chunk = p.member_chunk;
      member = members;
      import_chunk = p.import_chunk;
      imports = p.imports;
      entry = p.entry;
      entry_chunk = p.entry_chunk;
      seed = p.seed;
    }

-- the columns' places: 35 bounds that rise from 0 to the end
unfoldable pub bounds_fit : List ℕ → List ℕ → Bool
bounds_fit bounds columns = eqb (length bounds) 35 && (eqb (get_or bounds 0 0) 0 && (eqb (get_or bounds 34 0) (length columns) && rises bounds))

-- a project whose import records are lent beside it
abbrev pub with_records : Project → List ℕ → List ℕ → List ℕ → Project
with_records p importers kinds targets = read p importers kinds targets p.dependency p.member

-- a project as it is read: "record targets and dependencies are read through" `newer`, all else as written
unfoldable pub current : Project → Project
current p = read p p.record_module p.record_kind (as_read p.newer p.record_target) (as_read p.newer p.dependency) p.member

-- what refuses a table: 1 where the bounds don't fit, else what refuses the project
abbrev pub table_refusal : List ℕ → List ℕ → Project → Option Refusal
table_refusal bounds columns p = cond (bounds_fit bounds columns) (refusal p) (Some ListSize)

-- what refuses where 1 tests one thing more, and 2 another: the lowest number is given
abbrev pub tested_too : Option Refusal → Bool → Bool → Option Refusal
tested_too (Some ListSize) one two = Some ListSize
tested_too r false two = Some ListSize
tested_too (Some ColumnValue) true two = Some ColumnValue
tested_too r true false = Some ColumnValue
tested_too r true true = r

-- a project as it is read, its members as written, with what refuses it as it was lent, the names among what 1 and 2 test
pub record Lent : Type 0 where
  pub refused : Option Refusal
  pub project : Project

abbrev pub lent_as : List ℕ → List ℕ → List ℕ → Project → Lent
lent_as bounds columns names p =
    record { refused = tested_too (table_refusal bounds columns p) (names_sized names) (names_in (modules p) names); project = current p }

-- a table as it was lent
abbrev pub lent : ℕ → ℕ → List ℕ → List ℕ → List ℕ → Lent
lent runtime dynamic bounds columns names = lent_as bounds columns names (table runtime dynamic bounds columns)

-- a table as it was lent, with its import records beside it
abbrev pub lent_with : ℕ → ℕ → List ℕ → List ℕ → List ℕ → List ℕ → List ℕ → List ℕ → Lent
lent_with runtime dynamic bounds columns names importers kinds targets =
    lent_as bounds columns names (with_records (table runtime dynamic bounds columns) importers kinds targets)
