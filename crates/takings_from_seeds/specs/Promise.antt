-- What the operation `takings_from_seeds` promises.
-- Assumes nothing.
use Rattle.std.specs.Prelude.{◌≡◌, ℕ, ◌&&◌, List, length, nat_le, Option, None, Result}
use Rattle.tables.specs.Project.{Project}
use Rattle.tables.specs.Readings.{modules}
use Rattle.tables.specs.Answers.{verdict, answer, after}
use Rattle.tables.specs.declared.Refusal.{Refusal}
use Rattle.table.specs.Table.{Lent}
use Rattle.chunk_cycles.specs.Cycles.{labels_of}
use Rattle.wrap_rules.specs.Plan.{orders_of, asked, start}
use Rattle.seeds.specs.Seeds.{seeds_fit}
use Rattle.takings.specs.Taking.{Run}

-- a run of the four rules from the eligible seeds
abbrev pub RunOf : Project → List ℕ → List ℕ → List ℕ → Type 0
RunOf p seeds list lengths = Run (asked (orders_of p) (labels_of p) p) (start (orders_of p) (labels_of p) p seeds) list lengths

-- what refuses a call: 5 for seeds that don't fit, 6 for an output shorter than the module count
abbrev pub takings_verdict : Lent → List ℕ → ℕ → ℕ → Option Refusal
takings_verdict t seeds list_room lengths_room = verdict t.refused (seeds_fit (modules t.project) seeds) (nat_le (modules t.project) list_room && nat_le (modules t.project) lengths_room)

-- a call's answer, the number of the listed modules, and the slices that it leaves: the list, and its length after each number of takings. The order of taking, and
-- with it the order of the list, is free; whatever it is, list and lengths are a run, and so the members are the plan
pub record TakingsFromSeeds (t : Lent) (seeds list lengths : List ℕ) (r : Result ℕ Refusal) (list' lengths' : List ℕ) : Type 0 where
  pub members : List ℕ
  pub sizes : List ℕ
  pub run : takings_verdict t seeds (length list) (length lengths) ≡ None → RunOf t.project seeds members sizes
  pub answered : r ≡ answer (takings_verdict t seeds (length list) (length lengths)) (length members)
  pub listed : list' ≡ after (takings_verdict t seeds (length list) (length lengths)) list members
  pub measured : lengths' ≡ after (takings_verdict t seeds (length list) (length lengths)) lengths sizes
