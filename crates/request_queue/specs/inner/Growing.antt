-- A list that grows in a slice, each member once, and what it grows by.
-- Assumes nothing.
use Rattle.std.specs.Prelude.{◌≡◌, ℕ, ◌+◌, ◌<◌, ◌≤◌, true, ◌⊎◌, List, length, take, slice_index}
use mathlib.Core.List.{Memᴰ}
use Rattle.lists.specs.Words.{has, ones}
use Rattle.walk.specs.Reach.{Reach⁺}

-- no list is longer
abbrev pub node_limit : ℕ
node_limit = 65536

-- a list of places, and the marks of all places
pub record Listing : Type 0 where
  pub marks : List ℕ
  pub list : List ℕ

-- each member stands once: its mark is one more than its place in the list, every other mark 0
pub record Listed (marks list : List ℕ) : Type 0 where
  pub all : ones marks ≡ length list
  pub placed : (i : ℕ) → i < length list → (slice_index list i < length marks) × (slice_index marks (slice_index list i) ≡ i + 1)
  pub listed : (x : ℕ) → has marks x ≡ true → (i : ℕ) × (i < length list) × (slice_index list i ≡ x)

-- the list is the front of a slice with room for all places
pub record Standing (marks queue : List ℕ) (count : ℕ) : Type 0 where
  pub few : length marks ≤ node_limit
  pub room : length queue ≡ length marks
  pub within : count ≤ length queue
  pub listed : Listed marks (take count queue)

-- the list has grown, only by those of which f holds
pub record Grew (f : ℕ → Type 0) (q q' : Listing) : Type 0 where
  pub size : length q'.marks ≡ length q.marks
  pub more : length q.list ≤ length q'.list
  pub front : (i : ℕ) → i < length q.list → slice_index q'.list i ≡ slice_index q.list i
  pub old : (x : ℕ) → has q.marks x ≡ true → slice_index q'.marks x ≡ slice_index q.marks x
  pub only : (x : ℕ) → has q'.marks x ≡ true → (has q.marks x ≡ true) ⊎ f x
  pub listed : Listed q.marks q.list → Listed q'.marks q'.list

-- and all of those are in
pub record Grown (f : ℕ → Type 0) (q q' : Listing) : Type 0 where
  pub grew : Grew f q q'
  pub all : (x : ℕ) → f x → has q'.marks x ≡ true

-- a member of a list, and what its members give, a marked one itself
abbrev pub among : List ℕ → ℕ → Type 0
among xs x = Memᴰ x xs

abbrev pub given : (ℕ → ℕ → Type 0) → List ℕ → ℕ → Type 0
given gives xs x = (v : ℕ) × Memᴰ v xs × gives v x

abbrev pub chosen : List ℕ → ℕ → ℕ → Type 0
chosen marks v x = (x ≡ v) × (has marks v ≡ true)

module _ (succ : ℕ → List ℕ) where
  -- with a member all that it leads to is in
  unfoldable pub Along : List ℕ → Type 0
  Along marks = (x : ℕ) → has marks x ≡ true → (y : ℕ) → Memᴰ y (succ x) → has marks y ≡ true

  -- it has grown by what x leads to by one or more edges, and is closed along the edges
  pub record Reached (x : ℕ) (q q' : Listing) : Type 0 where
    pub grown : Grown (Reach⁺ succ x) q q'
    pub along : Along q'.marks
