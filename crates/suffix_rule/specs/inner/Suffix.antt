-- What the passes of rule (i) do, over the orders of several entries, and at a project.
-- Assumes nothing.
use Rattle.std.specs.Prelude.{◌≡◌, ℕ, ◌<◌, ◌≤◌, Bool, true, ◌⊎◌, List, map, length, ◌≢◌, slice_index, slice_index_or, slice_set}
use mathlib.Core.List.{Memᴰ}
use Rattle.lists.specs.Words.{has, keep}
use Rattle.walk.specs.Close.{Within}
use Rattle.tables.specs.Project.{Project}
use Rattle.expected_visit.specs.OfProject.{expected_of}
use Rattle.sensitivity.specs.Marks.{sensitive_marks}
use Rattle.eligibility.specs.Eligible.{eligible, eligible_marks}
use Rattle.marks.specs.Steps.{Added}
use Rattle.wrap_rules.specs.Rules.{suffix_asks}
use Rattle.wrap_rules.specs.Plan.{roots, orders_of}
use Rattle.wrap_rules.specs.inner.Passes.{Passed}

-- r is the first place of an order whose member is in both sets, or the order's length
pub record FirstIn (first second order : List ℕ) (r : ℕ) : Type 0 where
  pub within : r ≤ length order
  pub none : (k : ℕ) → k < r → has first (slice_index order k) ≡ true → has second (slice_index order k) ≢ true
  pub found : r < length order → (has first (slice_index order r) ≡ true) × (has second (slice_index order r) ≡ true)

-- a sensitive member m of an order that stands at or after a sensitive planned one
pub record InSuffix (order sensitive S : List ℕ) (m : ℕ) : Type 0 where
  pub sensitives : has sensitive m ≡ true
  pub from : ℕ
  pub at : ℕ
  pub after : from ≤ at
  pub there : at < length order
  pub first : has sensitive (slice_index order from) ≡ true
  pub planned : has S (slice_index order from) ≡ true
  pub named : slice_index_or order at 0 ≡ m

-- t is s with those places of which f holds
pub record Joined (f : ℕ → Type 0) (s t : List ℕ) : Type 0 where
  pub len : length t ≡ length s
  pub old : Within s t
  pub all : (m : ℕ) → m < length s → f m → has t m ≡ true
  pub only : (m : ℕ) → has t m ≡ true → (has s m ≡ true) ⊎ f m

-- no sensitive eligible member stands before the suffix
unfoldable pub WholeSuffix : List ℕ → List ℕ → List ℕ → List ℕ → Type 0
WholeSuffix order sensitive eligible S =
    (k : ℕ) → k < length order → has sensitive (slice_index order k) ≡ true → has eligible (slice_index order k) ≡ true → InSuffix order sensitive S (slice_index order k)

-- every sensitive eligible member of an order is planned
unfoldable pub AllPlanned : List ℕ → List ℕ → List ℕ → List ℕ → Type 0
AllPlanned order sensitive eligible S = (m : ℕ) → Memᴰ m order → has sensitive m ≡ true → has eligible m ≡ true → has S m ≡ true

-- an entry's suffix is planned, and the entry k settled if all is planned then
pub record Extended (order sensitive eligible : List ℕ) (k : ℕ) (settled settled' s t : List ℕ) (changed : Bool) : Type 0 where
  pub added : Added (λ (m : ℕ). InSuffix order sensitive s m × (has eligible m ≡ true)) s t changed
  pub settles : (settled' ≡ settled) ⊎ ((settled' ≡ slice_set settled k 1) × AllPlanned order sensitive eligible t)

module _ (p : Project) where
  -- the expected sensitive orders of several roots
  unfoldable pub sensitive_orders : List ℕ → List ℕ → List (List ℕ)
  sensitive_orders sensitive root_list = map (λ (root : ℕ). keep (has sensitive) (expected_of p root)) root_list

  -- all is planned of the orders of the settled roots
  unfoldable pub Settled : List ℕ → List ℕ → List ℕ → List ℕ → List ℕ → Type 0
  Settled root_list sensitive eligible settled S = (k : ℕ) → k < length root_list → has settled k ≡ true → AllPlanned (expected_of p (slice_index root_list k)) sensitive eligible S

  -- every eligible member of the roots' orders is a candidate
  unfoldable pub Candidates : List ℕ → List ℕ → List ℕ → Type 0
  Candidates root_list eligible candidates = (root m : ℕ) → Memᴰ root root_list → Memᴰ m (expected_of p root) → has eligible m ≡ true → has candidates m ≡ true

-- the roots of a project that are settled by a plan
abbrev pub SettledOf : Project → List ℕ → List ℕ → Type 0
SettledOf p settled plan = Settled p (roots p) (sensitive_marks p) (eligible_marks p) settled plan

pub record Settling (p : Project) (settled plan : List ℕ) : Type 0 where
  pub size : length settled ≡ length (roots p)
  pub settles : SettledOf p settled plan

-- what a pass leaves
pub record SuffixPassed (p : Project) (plan settled' plan' : List ℕ) (changed : Bool) : Type 0 where
  pub settles : SettledOf p settled' plan'
  pub passed : Passed (suffix_asks (eligible p) (orders_of p)) plan plan' changed
