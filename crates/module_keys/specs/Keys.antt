-- The groups of `sort_chunk_modules`, and the key of a module.
-- Assumes nothing.
use Rattle.std.specs.Prelude.{ℕ, Bool, cond, ◌&&◌, List, [], ◌∷◌, length, ◌==◌, slice_index}
use Rattle.lists.specs.Words.{is_zero}
use Rattle.tables.specs.Readings.{is_normal, rows_of}
use Rattle.names.specs.Names.{name_of}
use Rattle.name_order.specs.Runtime.{is_runtime}

-- a module without any record
abbrev pub recordless : List ℕ → ℕ → Bool
recordless record_module m = is_zero (length (rows_of record_module m))

-- "normal modules without records and without the sensitive flag"
abbrev pub is_leaf : List ℕ → List ℕ → List ℕ → ℕ → Bool
is_leaf normal record_module sensitive m = is_normal normal m && (slice_index sensitive m == 0 && recordless record_module m)

-- the group of module m, whose name is given: rolldown's own first, then the leaves, then the others
unfoldable pub group_by : List ℕ → List ℕ → List ℕ → List ℕ → ℕ → ℕ
group_by name normal record_module sensitive m = cond (is_runtime name) 0 (cond (is_leaf normal record_module sensitive m) 1 2)

-- a key: a group, and behind it a name if it is that of the leaves, else a number
abbrev pub key_by : ℕ → List ℕ → ℕ → List ℕ
key_by group name number = group ∷ cond (group == 1) name (number ∷ [])

-- the key of module m, from the project's names and its numbers
unfoldable pub key_of : List ℕ → List ℕ → List ℕ → List ℕ → List ℕ → ℕ → List ℕ
key_of names normal record_module sensitive numbers m =
    key_by (group_by (name_of names m) normal record_module sensitive m) (name_of names m) (slice_index numbers m)
