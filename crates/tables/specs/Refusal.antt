-- 01's tests 1 to 4 of a project and 02's test 10, in their words and order, and the number that applies first.
-- Assumes nothing.
use Rattle.std.specs.Prelude.{ℕ, suc, Bool, true, cond, not, ◌&&◌, ◌||◌, ltb, List, [], ◌∷◌, length, ◌==◌, nat_eq, nat_le, nat_lt, slice_index, Option, None, Some}
use mathlib.Core.List.{zip}
use Rattle.lists.specs.Words.{is_zero, up_to, every, twice}
use Rattle.tables.specs.Project.{Project, missing, largest}
use Rattle.tables.specs.declared.Refusal.{Refusal}
use Rattle.tables.specs.declared.Refusal.TheVariants.{ListSize, ColumnValue, RowOrder, RowConflict, NewerRow}
use Rattle.tables.specs.Readings.{modules, chunks, is_normal}

-- "Modules 1 to 4,096; chunks 0 to 1,024; any other list 0 to 16,384 rows."
abbrev pub module_limit : ℕ
module_limit = suc largest

abbrev pub chunk_limit : ℕ
chunk_limit = 1024

abbrev pub row_limit : ℕ
row_limit = 16384

-- a list is within its limit, and its other columns are as long as its first
unfoldable pub sized : ℕ → List ℕ → List (List ℕ) → Bool
sized limit column others = nat_le (length column) limit && every (λ (other : List ℕ). nat_eq (length other) (length column)) others

-- 1, modules (of which one is there at least), records, dependencies and statements
abbrev pub code_sized : Project → Bool
code_sized p =
    (not (is_zero (modules p)) && sized module_limit p.normal (p.included ∷ p.sensitive ∷ p.reads ∷ p.exports ∷ p.wrap ∷ p.chunk ∷ p.newer ∷ []))
    && (sized row_limit p.record_module (p.record_kind ∷ p.record_target ∷ [])
    && (sized row_limit p.dependency_module (p.dependency ∷ [])
    && sized row_limit p.statement_module (p.statement_included ∷ [])))

-- 1, uses, symbols, export chains, references and depended rows
abbrev pub symbols_sized : Project → Bool
symbols_sized p =
    sized row_limit p.use_statement (p.use_record ∷ [])
    && (sized row_limit p.owner (p.canonical ∷ [])
    && (sized row_limit p.chain_symbol (p.chain_link ∷ [])
    && (sized row_limit p.reference_statement (p.reference_form ∷ p.reference_symbol ∷ [])
    && sized row_limit p.depended_reference (p.depended ∷ []))))

-- 1, chunks, members, imports, entries and seeds
abbrev pub chunks_sized : Project → Bool
chunks_sized p =
    sized chunk_limit p.order []
    && (sized row_limit p.member_chunk (p.member ∷ [])
    && (sized row_limit p.import_chunk (p.imports ∷ [])
    && (sized row_limit p.entry (p.entry_chunk ∷ [])
    && sized row_limit p.seed [])))

-- 1: not "a list is over its limit, its columns differ in length, or no module is there"
unfoldable pub sizes_fit : Project → Bool
sizes_fit p = code_sized p && (symbols_sized p && chunks_sized p)

-- every value of a column is below n
unfoldable pub below : ℕ → List ℕ → Bool
below n column = every (λ (x : ℕ). ltb x n) column

-- every value of a column is below n "or `-`"
unfoldable pub below_or_missing : ℕ → List ℕ → Bool
below_or_missing n column = every (λ (x : ℕ). nat_lt x n || x == missing) column

-- 2, list by list
abbrev pub settings_in : ℕ → ℕ → ℕ → Bool
settings_in modules runtime dynamic = nat_lt runtime modules && nat_lt dynamic 2

abbrev pub modules_in : ℕ → List ℕ → List ℕ → List ℕ → List ℕ → List ℕ → List ℕ → List ℕ → Bool
modules_in chunks normal included sensitive reads exports wrap chunk =
    below 2 normal && (below 2 included && (below 2 sensitive && (below 2 reads && (below 3 exports && (below 3 wrap && below_or_missing chunks chunk)))))

abbrev pub records_in : ℕ → List ℕ → List ℕ → List ℕ → Bool
records_in modules record_module record_kind record_target =
    below modules record_module && (below 4 record_kind && below_or_missing modules record_target)

-- two columns, each with its own bound
abbrev pub pair_in : ℕ → ℕ → List ℕ → List ℕ → Bool
pair_in m n first second = below m first && below n second

abbrev pub references_in : ℕ → ℕ → List ℕ → List ℕ → List ℕ → Bool
references_in statements symbols reference_statement reference_form reference_symbol =
    below statements reference_statement && (below 3 reference_form && below_or_missing symbols reference_symbol)

abbrev pub entries_in : ℕ → ℕ → List ℕ → List ℕ → Bool
entries_in modules chunks entry entry_chunk = below modules entry && below_or_missing chunks entry_chunk

-- 2, settings, modules, records, dependencies and statements
abbrev pub code_in : Project → Bool
code_in p =
    settings_in (modules p) p.runtime p.dynamic
    && (modules_in (chunks p) p.normal p.included p.sensitive p.reads p.exports p.wrap p.chunk
    && (records_in (modules p) p.record_module p.record_kind p.record_target
    && (pair_in (modules p) (modules p) p.dependency_module p.dependency
    && pair_in (modules p) 2 p.statement_module p.statement_included)))

-- 2, uses, symbols, export chains, references and depended rows
abbrev pub symbols_in : Project → Bool
symbols_in p =
    pair_in (length p.statement_module) (length p.record_module) p.use_statement p.use_record
    && (pair_in (modules p) (length p.owner) p.owner p.canonical
    && (pair_in (length p.owner) (length p.owner) p.chain_symbol p.chain_link
    && (references_in (length p.statement_module) (length p.owner) p.reference_statement p.reference_form p.reference_symbol
    && pair_in (length p.reference_statement) (length p.owner) p.depended_reference p.depended)))

-- 2, chunks ("any value but the mark"), members, imports, entries and seeds
abbrev pub chunks_in : Project → Bool
chunks_in p =
    below missing p.order
    && (pair_in (chunks p) (modules p) p.member_chunk p.member
    && (pair_in (chunks p) (chunks p) p.import_chunk p.imports
    && (entries_in (modules p) (chunks p) p.entry p.entry_chunk
    && below (modules p) p.seed)))

-- 2: not "a value outside its column"
unfoldable pub values_fit : Project → Bool
values_fit p = code_in p && (symbols_in p && chunks_in p)

-- no row is below the row above
unfoldable pub rises : List ℕ → Bool
rises [] = true
rises (x ∷ []) = true
rises (x ∷ y ∷ ys) = nat_le x y && rises (y ∷ ys)

-- 3: "in records, statements, members or imports, a first column below the row above"
unfoldable pub rows_rise : Project → Bool
rows_rise p = rises p.record_module && (rises p.statement_module && (rises p.member_chunk && rises p.import_chunk))

-- 4: no row of "an external with a record or statement"
unfoldable pub all_normal : List ℕ → List ℕ → Bool
all_normal normal column = every (is_normal normal) column

-- 4: no "use of another module's record"
unfoldable pub uses_own : List ℕ → List ℕ → List ℕ → List ℕ → Bool
uses_own statement_module record_module use_statement use_record =
    every (λ (row : ℕ). nat_eq (slice_index statement_module (slice_index use_statement row)) (slice_index record_module (slice_index use_record row)))
    (up_to (length use_statement))

-- 4: no "depended row for form 0 or 1"
unfoldable pub depended_resolved : List ℕ → List ℕ → Bool
depended_resolved reference_form depended_reference = every (λ (reference : ℕ). nat_eq (slice_index reference_form reference) 2) depended_reference

-- 4: no "form 0 or 1 without a symbol"
unfoldable pub plain_symbols : List ℕ → List ℕ → Bool
plain_symbols reference_form reference_symbol =
    every (λ (row : ℕ). (slice_index reference_form row == 2) || not (slice_index reference_symbol row == missing)) (up_to (length reference_form))

-- 4: no "entry .. twice"
unfoldable pub entries_once : List ℕ → Bool
entries_once entry = not (twice nat_eq entry)

-- 4: no "import pair twice"
abbrev pub same_pair : ℕ × ℕ → ℕ × ℕ → Bool
same_pair a b = a.0 == b.0 && a.1 == b.1

unfoldable pub imports_once : List ℕ → List ℕ → Bool
imports_once import_chunk imports = not (twice same_pair (zip import_chunk imports))

unfoldable pub rows_agree : Project → Bool
rows_agree p =
    all_normal p.normal p.record_module
    && (all_normal p.normal p.statement_module
    && (uses_own p.statement_module p.record_module p.use_statement p.use_record
    && (depended_resolved p.reference_form p.depended_reference
    && (plain_symbols p.reference_form p.reference_symbol
    && (entries_once p.entry && imports_once p.import_chunk p.imports)))))

-- "missing" or "the number of a later module row"
abbrev pub fits_at : List ℕ → ℕ → Bool
fits_at newer m = slice_index newer m == missing || (nat_lt m (slice_index newer m) && nat_lt (slice_index newer m) (length newer))

-- 10: no "`newer` that is neither missing nor the number of a later module row"
unfoldable pub newer_fits : List ℕ → Bool
newer_fits newer = every (fits_at newer) (up_to (length newer))

-- "The lowest that applies is given", and 10 "after 4"
unfoldable pub refusal : Project → Option Refusal
refusal p =
    cond (sizes_fit p) (cond (values_fit p) (cond (rows_rise p) (cond (rows_agree p) (cond (newer_fits p.newer) None (Some NewerRow)) (Some RowConflict)) (Some RowOrder)) (Some ColumnValue)) (Some ListSize)
