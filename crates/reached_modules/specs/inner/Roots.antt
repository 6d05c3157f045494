-- The analysed entries' roots, and the modules that they reach, over the columns that are read.
-- Assumes nothing.
use Rattle.std.specs.Prelude.{◌≡◌, ℕ, ◌<◌, true, List, ◌++◌, length, drop, ◌≢◌, slice_index}
use Rattle.lists.specs.Words.{has}
use Rattle.walk.specs.Close.{Bits}
use Rattle.tables.specs.Project.{Project}
use Rattle.tables.specs.Readings.{modules}
use Rattle.eligibility.specs.Eligible.{eligible_marks}
use Rattle.wrap_rules.specs.Plan.{roots}
use Rattle.import_edges.specs.inner.Spread.{Spreads, EdgesOf}

-- a list is written to a slice from place 0 and the rest stays, and r is its length
pub record Written (list old new : List ℕ) (r : ℕ) : Type 0 where
  pub count : r ≡ length list
  pub written : new ≡ list ++ drop (length list) old

-- the least set of n places that holds the included roots and is closed along the records
pub record Reaching (included root_list from to : List ℕ) (n : ℕ) (reached_set : List ℕ) : Type 0 where
  pub start : List ℕ
  pub len : length start ≡ n
  pub root : (k : ℕ) → k < length root_list → has included (slice_index root_list k) ≡ true → slice_index root_list k < n → has start (slice_index root_list k) ≡ true
  pub only : (m : ℕ) → has start m ≡ true → (k : ℕ) × (k < length root_list) × (slice_index root_list k ≡ m)
  pub spreads : Spreads from to start reached_set

-- the eligible modules of that set
pub record Chosen (included root_list from to eligibles old candidates : List ℕ) : Type 0 where
  pub reached_set : List ℕ
  pub reaching : Reaching included root_list from to (length old) reached_set
  pub len : length candidates ≡ length old
  pub bits : Bits old → Bits candidates
  pub all : (m : ℕ) → m < length old → has reached_set m ≡ true → has eligibles m ≡ true → has candidates m ≡ true
  pub only : (m : ℕ) → has candidates m ≡ true → (has reached_set m ≡ true) × (has eligibles m ≡ true)

-- what the candidates of an accepted project are chosen by, and room for them in which nothing is marked
pub record Choosing (p : Project) (from to root_list eligibles candidates : List ℕ) : Type 0 where
  pub edges : EdgesOf p from to (length from)
  pub lengths : length to ≡ length from
  pub root : root_list ≡ roots p
  pub eligible_set : eligibles ≡ eligible_marks p
  pub size : length candidates ≡ modules p
  pub bits : Bits candidates
  pub none : (m : ℕ) → has candidates m ≢ true
