-- The expected order of a list of entries, over the columns that it reads.
-- Assumes nothing.
use Rattle.std.specs.Prelude.{ℕ, Bool, ◌&&◌, length}
use mathlib.Core.List.{List}
use Rattle.lists.specs.Words.{keep}
use Rattle.walk.specs.Walk.{everywhere, post_order}
use Rattle.tables.specs.Readings.{is_normal, flagged}
use Rattle.expected_visit.specs.Expected.{normal_imports_of}

-- "Entries that aren't included are passed over", and so are external ones
abbrev pub is_walked : List ℕ → List ℕ → ℕ → Bool
is_walked normal included e = flagged included e && is_normal normal e

-- "The list is the entries' parts in turn": one walk over all of them; modules not included are walked through and not listed
unfoldable pub entries_order : List ℕ → List ℕ → List ℕ → List ℕ → List ℕ → List ℕ → List ℕ
entries_order normal included record_module record_kind record_target entries =
    keep (flagged included)
    (post_order (normal_imports_of normal record_module record_kind record_target) everywhere (length normal) (keep (is_walked normal included) entries))
