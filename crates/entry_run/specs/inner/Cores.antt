-- What the core functions ask and ensure.
-- Assumes nothing.
use Rattle.std.specs.Prelude.{◌≡◌, ℕ, ◌<◌, ◌≤◌, List, [], ◌∷◌, ◌++◌, length, drop}
use mathlib.Core.List.{flat_map}
use Rattle.lists.specs.Words.{keep}
use Rattle.walk.specs.Walk.{everywhere, post_order}
use Rattle.tables.specs.Accepted.{Below, BelowOrMissing}
use Rattle.tables.specs.Refusal.{module_limit, chunk_limit}
use Rattle.visit_columns.specs.declared.inner.VisitColumns.{VisitColumns}
use Rattle.visit_steps.specs.inner.Steps.{Spans, part, in_way}
use Rattle.chunk_visits.specs.inner.Visits.{loads_of}
use Rattle.entry_run.specs.Actual.{Executed}

-- the hosts in turn, by the columns that the visits read: the members of each visited chunk, and last the root
unfoldable pub turns : VisitColumns → List ℕ → ℕ → ℕ → ℕ → List ℕ
turns columns member n root chunk =
    flat_map (λ (c : ℕ). keep (in_way 1 columns.ways.now) (part columns.member_starts.now member c)) (post_order (loads_of columns) everywhere n (chunk ∷ [])) ++ keep (in_way 2 columns.ways.now) (root ∷ [])

-- what the visits of a root ask of the columns that they read
pub record Runnable (columns : VisitColumns) (member order hosts : List ℕ) (chunks root chunk : ℕ) : Type 0 where
  pub each : length columns.ways.now ≡ length hosts
  pub spans : Spans columns.starts.now (length columns.triggers.now) (length hosts)
  pub triggered : BelowOrMissing (length hosts) columns.triggers.now
  pub members : Below (length hosts) member
  pub parts : Spans columns.member_starts.now (length member) chunks
  pub loading : Spans columns.load_starts.now (length columns.loads.now) chunks
  pub loaded : BelowOrMissing chunks columns.loads.now
  pub modules : length hosts ≤ module_limit
  pub places : chunks ≤ chunk_limit
  pub root_in : root < length hosts
  pub chunk_in : chunk < chunks
  pub room : length hosts ≤ length order

-- a list is written from place 0, the rest stands as it did, and r is the list's length
pub record Written (list old new : List ℕ) (r : ℕ) : Type 0 where
  pub count : r ≡ length list
  pub places : new ≡ list ++ drop (length list) old

-- a run is written: its list and its hosts
pub record Listed (e : Executed) (order order' hosts' : List ℕ) (r : ℕ) : Type 0 where
  pub listed : Written e.listed order order' r
  pub hosts : hosts' ≡ e.hosts
