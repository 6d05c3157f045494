-- What refuses a call, what an operation answers, and what it leaves in a lent slice.
-- Assumes nothing.
use Rattle.std.specs.Prelude.{ℕ, zero, Bool, cond, List, ◌++◌, length, drop, Option, None, Some, Result, Ok, Err}
use Rattle.tables.specs.declared.Refusal.{Refusal}
use Rattle.tables.specs.declared.Refusal.TheVariants.{ListSize, ColumnValue, RowOrder, RowConflict, Argument, ShortSlice, Text, ShortForCircles, PlanForm, NewerRow, PastSeason}

-- 01's number of a refusal
abbrev pub number : Refusal → ℕ
number ListSize = 1
number ColumnValue = 2
number RowOrder = 3
number RowConflict = 4
number Argument = 5
number ShortSlice = 6
number Text = 7
number ShortForCircles = 8
number PlanForm = 9
number NewerRow = 10
number PastSeason = 11

-- 01's number of a call: 0 where nothing refuses it
abbrev pub number_of : Option Refusal → ℕ
number_of None = zero
number_of (Some r) = number r

-- what a test answers
abbrev pub tested : Option Refusal → Result (Unit {0}) Refusal
tested None = Ok tt
tested (Some r) = Err r

-- what an operation answers: its value, mostly a count, or why the call is refused
abbrev pub answer : {A : Type 0} → Option Refusal → A → Result A Refusal
answer None value = Ok value
answer (Some r) value = Err r

-- why an answered call is refused
abbrev pub refused_of : {A : Type 0} → Result A Refusal → Option Refusal
refused_of (Ok value) = None
refused_of (Err r) = Some r

-- the count of an answer: 0 where the call is refused
abbrev pub count_of : Result ℕ Refusal → ℕ
count_of (Ok c) = c
count_of (Err r) = zero

-- what refuses a call: what refuses the project, else 5 if its arguments don't fit, else 6 if a slice is too short
abbrev pub verdict : Option Refusal → Bool → Bool → Option Refusal
verdict None fits room = cond fits (cond room None (Some ShortSlice)) (Some Argument)
verdict (Some r) fits room = Some r

-- the count of a call that v refuses, or nothing does
abbrev pub counted : Option Refusal → ℕ → ℕ
counted None count = count
counted (Some r) count = zero

-- a slice after such a call: as it was on a refusal, else with the new list from place 0
abbrev pub after : Option Refusal → List ℕ → List ℕ → List ℕ
after None old new = new ++ drop (length new) old
after (Some r) old new = old
