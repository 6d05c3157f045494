-- The calls of specs/Witnesses.
-- Assumes nothing.
use Rattle.std.specs.Prelude.{Ok}
use mathlib.Core.Path.{refl}
use mathlib.Core.List.{List, [], ◌∷◌, ◌++◌}
use Prim.Native.Nat.{ℕ}
use native.Mathlib.Omega.{arith}
use Rattle.tables.specs.Project.{missing}
use Rattle.table.specs.Table.{part, column_at, table, read, bounds_fit}
use Rattle.names.specs.Names.{lines_of, ended, names_fit, names_in, line_ends, names_sized}
use Rattle.marked_cases.proofs.Computing.{computing}
use Rattle.caller_promises.specs.Witnesses.{PlansFromC, PlansWithRecords}

-- the listing's columns before and after those of its records
abbrev before : List ℕ
before = 1 ∷ 1 ∷ 1 ∷ 1 ∷ 1 ∷ 1 ∷ 1 ∷ 1 ∷ 0 ∷ 1 ∷ 1 ∷ 1 ∷ 0 ∷ 0 ∷ 0 ∷ 0 ∷ 1 ∷ 1 ∷ 1 ∷ 1 ∷ 0 ∷ 0 ∷ 0 ∷ 0 ∷ 1 ∷ 0 ∷ 0 ∷ 1 ∷ missing ∷ missing ∷ missing ∷ missing ∷ []

abbrev after : List ℕ
after = 1 ∷ 1 ∷ 2 ∷ 3 ∷ 1 ∷ 0 ∷ 0 ∷ 0 ∷ 1 ∷ 1 ∷ 2 ∷ 1 ∷ 0 ∷ 3 ∷ 0 ∷ 1 ∷ 1 ∷ 0 ∷ []

abbrev slice : List ℕ
slice = 9 ∷ 8 ∷ 7 ∷ 6 ∷ 5 ∷ []

abbrev left : List ℕ
left = 0 ∷ 1 ∷ 1 ∷ 1 ∷ 5 ∷ []

pub plans_from_c : PlansFromC
unfolding computing part column_at table bounds_fit lines_of ended names_fit names_in line_ends names_sized
plans_from_c = record {
  call = record {
    runtime = 0;
    dynamic = 0;
    bounds = 0 ∷ 4 ∷ 8 ∷ 12 ∷ 16 ∷ 20 ∷ 24 ∷ 28 ∷ 32 ∷ 34 ∷ 36 ∷ 38 ∷ 40 ∷ 42 ∷ 42 ∷ 42 ∷ 42 ∷ 42 ∷ 42 ∷ 42 ∷ 42 ∷ 42 ∷ 42 ∷ 42 ∷ 42 ∷ 42 ∷ 42 ∷ 44 ∷ 48 ∷ 52 ∷ 53 ∷ 54 ∷ 55 ∷ 56 ∷ 56 ∷ [];
    columns = before ++ (1 ∷ 1 ∷ 0 ∷ 0 ∷ 2 ∷ 3 ∷ []) ++ after;
    names = 97 ∷ 10 ∷ 98 ∷ 10 ∷ 99 ∷ 10 ∷ 100 ∷ 10 ∷ [];
    slice = slice;
    answer = 3;
    left = left;
    promise = record { answer = Ok 3; code = refl; promised = record { answered = refl; written = refl } };
    accepted = omega arith;
  };
  marks = refl;
}

-- the table's own record columns are empty
pub plans_with_records : PlansWithRecords
unfolding computing part column_at table read bounds_fit names_in line_ends names_sized
plans_with_records = record {
  call = record {
    runtime = 0;
    dynamic = 0;
    bounds = 0 ∷ 4 ∷ 8 ∷ 12 ∷ 16 ∷ 20 ∷ 24 ∷ 28 ∷ 32 ∷ 32 ∷ 32 ∷ 32 ∷ 34 ∷ 36 ∷ 36 ∷ 36 ∷ 36 ∷ 36 ∷ 36 ∷ 36 ∷ 36 ∷ 36 ∷ 36 ∷ 36 ∷ 36 ∷ 36 ∷ 36 ∷ 38 ∷ 42 ∷ 46 ∷ 47 ∷ 48 ∷ 49 ∷ 50 ∷ 50 ∷ [];
    columns = before ++ after;
    names = [];
    records = record { importer = 1; kind = 0; target = 2 } ∷ record { importer = 1; kind = 0; target = 3 } ∷ [];
    slice = slice;
    answer = Ok 3;
    left = left;
    promise = record { answered = refl; written = refl };
    accepted = refl;
  };
  marks = refl;
}
