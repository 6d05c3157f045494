-- How the columns are read: each reading once, over just the columns that it needs.
-- Assumes nothing.
use Rattle.std.specs.Prelude.{ℕ, Bool, true, false, cond, not, ◌&&◌, ◌||◌, List, [], ◌∷◌, map, length, ◌==◌, nat_eq, nat_lt, slice_index}
use mathlib.Core.List.{flat_map}
use Rattle.lists.specs.Words.{up_to, keep, any}
use Rattle.tables.specs.Project.{Project, missing}
use Rattle.tables.specs.declared.Target.{Target}
use Rattle.tables.specs.declared.Target.TheVariants.{Missing, External, Normal}

-- the module count
abbrev pub modules : Project → ℕ
modules p = length p.normal

-- the chunk count
abbrev pub chunks : Project → ℕ
chunks p = length p.order

-- "normal 1, external 0"
abbrev pub is_normal : List ℕ → ℕ → Bool
is_normal normal m = slice_index normal m == 1

-- a flag of a module: `is_included`, `ExecutionOrderSensitive`, `TopLevelImportRead`
abbrev pub flagged : List ℕ → ℕ → Bool
flagged flag m = slice_index flag m == 1

-- "wrap not 0"
abbrev pub wrapped : List ℕ → ℕ → Bool
wrapped wrap m = not (slice_index wrap m == 0)

-- the rows of an owner, in row order
unfoldable pub rows_of : List ℕ → ℕ → List ℕ
rows_of owner m = keep (λ (row : ℕ). nat_eq (slice_index owner row) m) (up_to (length owner))

-- "whether a record is static here": kinds 0 and 1, and 2 if dynamic is 1
abbrev pub is_static : ℕ → ℕ → Bool
is_static dynamic kind = nat_lt kind 2 || (kind == 2 && dynamic == 1)

-- "kind 0 Import"
abbrev pub is_import : ℕ → Bool
is_import kind = kind == 0

-- "kinds 0 and 1": import and require
abbrev pub is_eager : ℕ → Bool
is_eager kind = nat_lt kind 2

abbrev pub pick_target : Bool → Target → Target → Target
pick_target true a b = a
pick_target false a b = b

-- the resolved target of a record row: missing, an external module or a normal one
unfoldable pub resolved : List ℕ → List ℕ → ℕ → Target
resolved normal target row =
    pick_target (slice_index target row == missing) Missing
    (pick_target (is_normal normal (slice_index target row)) (Normal (slice_index target row)) (External (slice_index target row)))

-- the module of a target, be it normal or external: "a missing target ends the look at that row"
abbrev pub any_target : Target → List ℕ
any_target Missing = []
any_target (External m) = m ∷ []
any_target (Normal m) = m ∷ []

-- the module of a normal target: "a missing or external target ends the look at that row"
abbrev pub normal_target : Target → List ℕ
normal_target Missing = []
normal_target (External m) = []
normal_target (Normal m) = m ∷ []

-- what a record row leads to: `kinds` says which kinds are followed, `which` what a target leads to
abbrev pub row_targets : (ℕ → Bool) → (Target → List ℕ) → List ℕ → List ℕ → List ℕ → ℕ → List ℕ
row_targets kinds which normal record_kind record_target row =
    cond (kinds (slice_index record_kind row)) (which (resolved normal record_target row)) []

-- what the records of m lead to, in record order
unfoldable pub targets_of : (ℕ → Bool) → (Target → List ℕ) → List ℕ → List ℕ → List ℕ → List ℕ → ℕ → List ℕ
targets_of kinds which normal record_module record_kind record_target m =
    flat_map (row_targets kinds which normal record_kind record_target) (rows_of record_module m)

-- the values of a column in the rows of an owner, in row order
unfoldable pub values_of : List ℕ → List ℕ → ℕ → List ℕ
values_of owner column m = map (λ (row : ℕ). slice_index column row) (rows_of owner m)

-- the members of a chunk, in order
abbrev pub members_of : List ℕ → List ℕ → ℕ → List ℕ
members_of member_chunk member c = values_of member_chunk member c

-- "analysed entries are included and have a chunk": an entry row
abbrev pub analysed_row : Project → ℕ → Bool
analysed_row p row = flagged p.included (slice_index p.entry row) && not (slice_index p.entry_chunk row == missing)

-- a root that is an analysed entry
unfoldable pub is_analysed : Project → ℕ → Bool
is_analysed p root = any (analysed_row p) (rows_of p.entry root)

-- the first of a list, or the mark
abbrev pub first_of : List ℕ → ℕ
first_of [] = missing
first_of (x ∷ xs) = x

-- the entry chunk of a root, or the mark
unfoldable pub entry_chunk_of : Project → ℕ → ℕ
entry_chunk_of p root = first_of (values_of p.entry p.entry_chunk root)

-- the rows of the analysed entries, in row order
unfoldable pub analysed : Project → List ℕ
analysed p = keep (analysed_row p) (up_to (length p.entry))
