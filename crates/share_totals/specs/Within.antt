-- What the outcomes of projects come to at most. Each statement is a type; `proofs/Sums.antt` inhabits it.
-- Assumes nothing.
use Rattle.std.specs.Prelude.{◌≡◌, ℕ, ◌*◌, ◌^◌, ◌<◌, ◌≤◌, List, length, Result, Ok, Err}
use mathlib.Core.List.{foldl, Memᴰ}
use Rattle.tables.specs.declared.Refusal.{Refusal}
use Rattle.share_totals.specs.declared.Share.{Share}
use Rattle.share_totals.specs.Sums.{Totals, none, added, totals_of}

-- an outcome as a project can have it: at most 4,096 modules, and none planned that isn't eligible
abbrev pub Fits : Result Share Refusal → Type 0
Fits (Ok s) = (s.planned ≤ s.eligible) × (s.eligible ≤ 4096)
Fits (Err r) = Unit {0}

-- the totals of at most n projects
pub record Within (n : ℕ) (t : Totals) : Type 0 where
  pub eligible : t.eligible ≤ 4096 * n
  pub planned : t.planned ≤ t.eligible
  pub refused : t.refused ≤ n

-- a step a project gives the sums over the projects
unfoldable pub StepsGiveTheSums : Type 0
StepsGiveTheSums = (os : List (Result Share Refusal)) → foldl added none os ≡ totals_of os

-- no sum overflows: over 10,000 projects and the refusal of the one that follows each is below 2 ^ 32, and 1,000 times one below 2 ^ 64
pub record Small (t : Totals) : Type 0 where
  pub eligible : t.eligible < 2 ^ 32
  pub planned : t.planned ≤ t.eligible
  pub refused : t.refused < 2 ^ 32
  pub product : 1000 * t.planned < 2 ^ 64

unfoldable pub SumsFit : Type 0
SumsFit = (os : List (Result Share Refusal)) → length os ≤ 10001 → ((o : Result Share Refusal) → Memᴰ o os → Fits o) → Small (totals_of os)
