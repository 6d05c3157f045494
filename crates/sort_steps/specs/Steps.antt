-- What the steps of a visit ensure, and what a walk that numbers makes.
-- Assumes nothing.
use Rattle.std.specs.Prelude.{◌≡◌, ℕ, ◌+◌, Bool, cond, not, Option, None, Some, List, [], ◌∷◌, ◌==◌, slice_index_or, slice_set}
use Rattle.lists.specs.Words.{is_zero, keep}
use Rattle.walk.specs.Walk.{Placed, place}
use Rattle.tables.specs.Project.{missing}
use Rattle.tables.specs.Readings.{is_normal}

-- r says whether m was met before; if not, it is marked
pub record Met (marks : List ℕ) (m : ℕ) (r : Bool) (marks' : List ℕ) : Type 0 where
  pub before : r ≡ not (is_zero (slice_index_or marks m 1))
  pub marked : marks' ≡ cond r marks (slice_set marks m 1)

-- those that are not met
abbrev pub unmet_of : List ℕ → List ℕ → List ℕ
unmet_of marks = keep (λ (m : ℕ). is_zero (slice_index_or marks m 1))

-- the one module that is led to, if any
abbrev pub one_or_none : Option ℕ → List ℕ
one_or_none None = []
one_or_none (Some t) = t ∷ []

-- t as the one module that is led to, or none if it is the mark
abbrev pub unless_missing : ℕ → List ℕ
unless_missing t = cond (t == missing) [] (t ∷ [])

-- what the walk makes: the numbers, the next number, and the list
pub record Numbered : Type 0 where
  pub numbers : List ℕ
  pub next : ℕ
  pub list : Placed

-- what the walk has made, as the slices and the counters hold it
abbrev pub made : List ℕ → List ℕ → ℕ → ℕ → Numbered
made numbers sorted placed next = record { numbers = numbers; next = next; list = record { order = sorted; count = placed } }

-- a module takes the next number, and is placed if it is normal
abbrev pub number : List ℕ → Numbered → ℕ → Numbered
number normal a m = record {
  numbers = slice_set a.numbers m a.next;
  next = a.next + 1;
  list = place (is_normal normal) a.list m;
}
