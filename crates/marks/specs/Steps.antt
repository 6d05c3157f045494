-- What the steps of the code do to columns and to sets of marks.
-- Assumes nothing.
use Rattle.std.specs.Prelude.{◌≡◌, ℕ, ◌<◌, ◌≤◌, Bool, true, false, ◌⊎◌, List, map, length, ◌≢◌, slice_index, slice_index_or}
use Rattle.lists.specs.Words.{up_to, has, zeros}
use Rattle.walk.specs.Close.{Within, Bits}
use Rattle.tables.specs.Lookups.{greater_of}

-- each row's value in a table, `other` where the table has no such place
unfoldable pub looked : ℕ → List ℕ → List ℕ → List ℕ
looked other table column = map (λ (row : ℕ). slice_index_or table (slice_index column row) other) (up_to (length column))

-- t is s with at least x at place m, where it has one
pub record Raised (m x : ℕ) (s t : List ℕ) : Type 0 where
  pub len : length t ≡ length s
  pub there : m < length s → slice_index t m ≡ greater_of x (slice_index s m)
  pub other : (i : ℕ) → (i ≢ m) → slice_index t i ≡ slice_index s i

-- t is s with the owners of the first `count` rows that are marked, where they have a place
pub record Owners (owner rows : List ℕ) (count : ℕ) (s t : List ℕ) : Type 0 where
  pub len : length t ≡ length s
  pub bits : Bits rows → Bits s → Bits t
  pub old : Within s t
  pub new : (row : ℕ) → row < count → has rows row ≡ true → slice_index owner row < length s → has t (slice_index owner row) ≡ true
  pub only : (m : ℕ) → has t m ≡ true → (has s m ≡ true) ⊎ ((row : ℕ) × (row < count) × (has rows row ≡ true) × (slice_index owner row ≡ m))

-- t is s with those of the first `count` places of which f holds; `changed` says whether there are any new ones
pub record Adding (f : ℕ → Type 0) (count : ℕ) (s t : List ℕ) (changed : Bool) : Type 0 where
  pub len : length t ≡ length s
  pub bits : Bits s → Bits t
  pub old : Within s t
  pub all : (m : ℕ) → m < count → f m → has t m ≡ true
  pub only : (m : ℕ) → has t m ≡ true → (has s m ≡ true) ⊎ f m
  pub fewer : zeros t ≤ zeros s
  pub same : changed ≡ false → t ≡ s
  pub falls : changed ≡ true → zeros t < zeros s

abbrev pub Added : (ℕ → Type 0) → List ℕ → List ℕ → Bool → Type 0
Added f s t changed = Adding f (length s) s t changed

-- in each of three sets
abbrev pub InAll : List ℕ → List ℕ → List ℕ → ℕ → Type 0
InAll a b c m = (has a m ≡ true) × (has b m ≡ true) × (has c m ≡ true)

-- a set of just those places of which f holds
pub record Marks (f : ℕ → Type 0) (set : List ℕ) : Type 0 where
  pub only : (m : ℕ) → has set m ≡ true → f m
  pub all : (m : ℕ) → m < length set → f m → has set m ≡ true

-- a row of m whose value is in a set
pub record Row (owner value S : List ℕ) (m : ℕ) : Type 0 where
  pub row : ℕ
  pub there : row < length owner
  pub named : slice_index_or owner row 0 ≡ m
  pub holds : has S (slice_index value row) ≡ true
