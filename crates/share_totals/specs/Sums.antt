-- The totals of a season, as sums over the projects' outcomes and by one step a project.
-- Assumes nothing.
use Rattle.std.specs.Prelude.{ℕ, zero, ◌+◌, List, [], ◌∷◌, Result, Ok, Err}
use Rattle.tables.specs.declared.Refusal.{Refusal}
use Rattle.share_totals.specs.declared.Share.{Share}
use Rattle.share_totals.specs.Shares.{quotient_of, remainder_of}

-- eligible modules, planned modules, refused projects
pub record Totals : Type 0 where
  pub eligible : ℕ
  pub planned : ℕ
  pub refused : ℕ

-- what a project adds to each sum; "a refused project adds to no sum"
abbrev pub eligible_in : Result Share Refusal → ℕ
eligible_in (Ok s) = s.eligible
eligible_in (Err r) = 0

abbrev pub planned_in : Result Share Refusal → ℕ
planned_in (Ok s) = s.planned
planned_in (Err r) = 0

-- a refused project counts
abbrev pub refused_in : Result Share Refusal → ℕ
refused_in (Ok s) = 0
refused_in (Err r) = 1

abbrev pub sum : (Result Share Refusal → ℕ) → List (Result Share Refusal) → ℕ
sum f [] = zero
sum f (o ∷ os) = f o + sum f os

-- "the sums of e and p", and "the count of refused projects"
unfoldable pub totals_of : List (Result Share Refusal) → Totals
totals_of os = record { eligible = sum eligible_in os; planned = sum planned_in os; refused = sum refused_in os }

-- no project
abbrev pub none : Totals
none = record { eligible = 0; planned = 0; refused = 0 }

-- a project more
unfoldable pub added : Totals → Result Share Refusal → Totals
added t (Ok s) = record { eligible = t.eligible + s.eligible; planned = t.planned + s.planned; refused = t.refused }
added t (Err r) = record { eligible = t.eligible; planned = t.planned; refused = t.refused + 1 }

-- the numbers of the closing line: "the sums of e and p with their own quotient and remainder, and the count of refused projects"
abbrev pub total_numbers : Totals → List ℕ
total_numbers t = t.eligible ∷ t.planned ∷ quotient_of t.eligible t.planned ∷ remainder_of t.eligible t.planned ∷ t.refused ∷ []
