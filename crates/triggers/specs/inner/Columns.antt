-- The two columns: in which way modules execute, and what record rows trigger.
-- Assumes nothing.
use Rattle.std.specs.Prelude.{ℕ, cond, ◌&&◌, List, map, nat_eq}
use Rattle.lists.specs.Words.{up_to, keep}
use Rattle.tables.specs.Readings.{is_normal, flagged, wrapped, is_eager, normal_target, row_targets, first_of}

-- in which way a module executes: not at all; as a member; or where it is triggered, and a root last
abbrev pub way_of : List ℕ → List ℕ → List ℕ → ℕ → ℕ
way_of normal included wrap m = cond (is_normal normal m && flagged included m) (cond (wrapped wrap m) 2 1) 0

-- those of some modules that execute where they are triggered
abbrev pub runs : List ℕ → List ℕ → List ℕ → List ℕ → List ℕ
runs normal included wrap ts = keep (λ (t : ℕ). nat_eq (way_of normal included wrap t) 2) ts

-- which module a record row triggers, or the mark: of "its targets of kind 0 and 1 with wrap not 0" those that execute
abbrev pub row_trigger : List ℕ → List ℕ → List ℕ → List ℕ → List ℕ → ℕ → ℕ
row_trigger normal included wrap record_kind record_target row = first_of (runs normal included wrap (row_targets is_eager normal_target normal record_kind record_target row))

-- the two columns: of n modules, and of as many record rows
abbrev pub ways : List ℕ → List ℕ → List ℕ → ℕ → List ℕ
ways normal included wrap n = map (way_of normal included wrap) (up_to n)

abbrev pub triggers : List ℕ → List ℕ → List ℕ → List ℕ → List ℕ → ℕ → List ℕ
triggers normal included wrap record_kind record_target rows = map (row_trigger normal included wrap record_kind record_target) (up_to rows)
