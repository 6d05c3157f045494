-- A list of records as columns.
-- Assumes nothing.
use Rattle.std.specs.Prelude.{ℕ, cond, List, ◌++◌, map, length, take, drop, replicate, nat_le}
use Rattle.tables.specs.Refusal.{row_limit}
use Rattle.record_columns.specs.declared.Record.{Record}
use Rattle.record_columns.specs.declared.inner.Columns.{Columns}

-- what stands past the last row
abbrev pub no_row : Record
no_row = record { importer = 0; kind = 0; target = 0 }

-- the columns of a list of records, as a project has them
abbrev pub importer_column : List Record → List ℕ
importer_column records = map (λ (r : Record). r.importer) records

abbrev pub kind_column : List Record → List ℕ
kind_column records = map (λ (r : Record). r.kind) records

abbrev pub target_column : List Record → List ℕ
target_column records = map (λ (r : Record). r.target) records

-- how many rows are copied of so many: none of a list over the limit
unfoldable pub copied : ℕ → ℕ
copied rows = cond (nat_le rows row_limit) rows 0

-- the first n rows of a column, and zeros up to the limit
abbrev pub padded : ℕ → List ℕ → List ℕ
padded n column = take n column ++ drop n (replicate row_limit 0)

abbrev pub columns_of : List Record → Columns
columns_of records = record {
  rows = length records;
  importers = padded (copied (length records)) (importer_column records);
  kinds = padded (copied (length records)) (kind_column records);
  targets = padded (copied (length records)) (target_column records);
}
