-- Places of a list after which rule (i) asks for a module. `placed` has one more than the place of each listed module, 0 for the others; `asked` has
-- such a number for each module, or `never`.
-- Assumes nothing.
use Rattle.std.specs.Prelude.{◌≡◌, ℕ, ◌<◌, ◌≤◌, Bool, true, ◌⊎◌, List, length, ◌≢◌, slice_index, slice_index_or}
use Rattle.lists.specs.Words.{has}
use Rattle.tables.specs.Project.{Project}
use Rattle.tables.specs.Readings.{modules}
use Rattle.expected_visit.specs.OfProject.{expected_of}
use Rattle.suffix_rule.specs.inner.Suffix.{AllPlanned, Settled}

-- more than any place
abbrev pub never : ℕ
never = 4097

-- marks of a project's n modules
pub record Markings (p : Project) (sensitive eligible : List ℕ) (n : ℕ) : Type 0 where
  pub size : n ≡ modules p
  pub sensitives : length sensitive ≡ n
  pub eligibles : length eligible ≡ n

-- r is the lesser of two, of which the second counts only if it isn't 0
pub record Earlier (least place r : ℕ) : Type 0 where
  pub low : r ≤ least
  pub below : (place ≢ 0) → r ≤ place
  pub one : (r ≡ least) ⊎ ((r ≡ place) × (place ≢ 0))

-- no number is above `never`
unfoldable pub Small : List ℕ → Type 0
Small asked = (m : ℕ) → slice_index asked m ≤ never

-- in the first k places of an order a sensitive member x stands at or before a sensitive member m
pub record StandsBelow (order sensitive : List ℕ) (k x m : ℕ) : Type 0 where
  pub from : ℕ
  pub at : ℕ
  pub after : from ≤ at
  pub there : at < k
  pub first : slice_index_or order from 0 ≡ x
  pub named : slice_index_or order at 0 ≡ m
  pub early : has sensitive x ≡ true
  pub late : has sensitive m ≡ true

abbrev pub Stands : List ℕ → List ℕ → ℕ → ℕ → Type 0
Stands order sensitive x m = StandsBelow order sensitive (length order) x m

-- each member of an order is asked for no later than by a listed one that stands at or before it, and at such a place
pub record Lowered (order sensitive placed asked asked' : List ℕ) : Type 0 where
  pub len : length asked' ≡ length asked
  pub low : (m : ℕ) → slice_index asked' m ≤ slice_index asked m
  pub all : (x m : ℕ) → Stands order sensitive x m → has placed x ≡ true → slice_index asked' m ≤ slice_index placed x
  pub only : (m : ℕ) → (slice_index asked' m ≡ slice_index asked m) ⊎ ((x : ℕ) × Stands order sensitive x m × (has placed x ≡ true) × (slice_index asked' m ≡ slice_index placed x))

-- the same, and whether every sensitive eligible member is listed
pub record LoweredEntry (order sensitive eligible placed asked asked' : List ℕ) (listed : Bool) : Type 0 where
  pub lowered : Lowered order sensitive placed asked asked'
  pub all : listed ≡ true → AllPlanned order sensitive eligible placed

-- the same over the orders of the first k of several roots
pub record LowestBelow (p : Project) (roots sensitive eligible placed asked : List ℕ) (k : ℕ) (settled' asked' : List ℕ) : Type 0 where
  pub size : length settled' ≡ length roots
  pub len : length asked' ≡ length asked
  pub low : (m : ℕ) → slice_index asked' m ≤ slice_index asked m
  pub settles : Settled p roots sensitive eligible settled' placed
  pub all : (j : ℕ) → j < k → (x m : ℕ) → Stands (expected_of p (slice_index roots j)) sensitive x m → has placed x ≡ true → has eligible m ≡ true
      → (has placed m ≡ true) ⊎ (slice_index asked' m ≤ slice_index placed x)
  pub only : (m : ℕ) → (slice_index asked' m ≡ slice_index asked m)
      ⊎ ((j x : ℕ) × (j < length roots) × Stands (expected_of p (slice_index roots j)) sensitive x m × (has placed x ≡ true) × (slice_index asked' m ≡ slice_index placed x))

abbrev pub Lowest : Project → List ℕ → List ℕ → List ℕ → List ℕ → List ℕ → List ℕ → List ℕ → Type 0
Lowest p roots sensitive eligible placed asked settled' asked' = LowestBelow p roots sensitive eligible placed asked (length roots) settled' asked'
