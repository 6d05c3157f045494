-- "Eligible" modules of a project.
-- Assumes nothing.
use Rattle.std.specs.Prelude.{ℕ, Bool, not, ◌&&◌, List, ◌==◌, nat_lt, slice_index}
use Rattle.lists.specs.Words.{marks_of}
use Rattle.tables.specs.Project.{Project}
use Rattle.tables.specs.Readings.{modules, is_normal, flagged, wrapped}

-- "Eligible: not the runtime, included, normal, exports 0 or 1, wrap 0."
abbrev pub is_eligible : ℕ → List ℕ → List ℕ → List ℕ → List ℕ → ℕ → Bool
is_eligible runtime normal included exports wrap m =
    not (m == runtime) && (flagged included m && (is_normal normal m && (nat_lt (slice_index exports m) 2 && not (wrapped wrap m))))

unfoldable pub eligible : Project → ℕ → Bool
eligible p m = is_eligible p.runtime p.normal p.included p.exports p.wrap m

-- the marks of a project's eligible modules
abbrev pub eligible_marks : Project → List ℕ
eligible_marks p = marks_of (eligible p) (modules p)
