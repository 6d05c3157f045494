-- Where the names of a text lie.
-- Assumes nothing.
use Rattle.std.specs.Prelude.{◌≡◌, ℕ, ◌-◌, ◌≤◌, true, List, length, take, drop, ◌≢◌, Option, Some, None}
use Rattle.named_form.specs.NamedForm.{NameList, name_section, list_fits, lent_names}

-- the names of the list l are the part of s from one position to another
abbrev pub LiesIn : List ℕ → NameList → ℕ → ℕ → Type 0
LiesIn s l from to = (from ≤ to) × (to ≤ length s) × (take (to - from) (drop from s) ≡ lent_names l)

-- s ends, from `at` on, with a list of n modules or without one, whose names lie there; or it ends with neither
abbrev pub NamesLie : List ℕ → ℕ → ℕ → Option (ℕ × ℕ) → Type 0
NamesLie s at n (Some (from, to)) = (l : NameList) × (list_fits n l ≡ true) × (drop at s ≡ name_section l) × LiesIn s l from to
NamesLie s at n None = (l : NameList) → list_fits n l ≡ true → drop at s ≢ name_section l
