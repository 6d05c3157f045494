-- What module visits ask and ensure, over columns alone.
-- Assumes nothing.
use Rattle.std.specs.Prelude.{◌≡◌, ℕ, ◌+◌, ◌≤◌, List, [], ◌∷◌, length}
use Rattle.lists.specs.Words.{zeros}
use Rattle.walk.specs.Walk.{St, walk, everywhere}
use Rattle.tables.specs.Accepted.{BelowOrMissing}
use Rattle.tables.specs.Refusal.{module_limit}
use Rattle.visit_steps.specs.declared.inner.ActualOrderTraversal.{ActualOrderTraversal}
use Rattle.visit_steps.specs.inner.Steps.{Spans, Filling, filling, fills}

-- the two counters are equal, and there is room for all that are not met
pub record RoomFor (t : ActualOrderTraversal) (marks list : List ℕ) : Type 0 where
  pub equal : t.next ≡ t.placed
  pub room : t.placed + zeros marks ≤ length list
  pub limit : t.placed + zeros marks ≤ module_limit

-- what an execution asks: each module has rows, which name modules, and a host, and there is room
pub record Ready (starts triggers marks order hosts : List ℕ) (t : ActualOrderTraversal) : Type 0 where
  pub spans : Spans starts (length triggers) (length marks)
  pub inside : BelowOrMissing (length marks) triggers
  pub hosted : length hosts ≡ length marks
  pub room : RoomFor t marks order

-- met modules, and what was made, as the slices hold it
abbrev pub executing : List ℕ → List ℕ → List ℕ → ℕ → St Filling
executing marks order hosts count = record { marks = marks; made = filling order hosts count }

-- a module executes as its own host, where modules trigger others
unfoldable pub hosted : (ℕ → List ℕ) → St Filling → ℕ → St Filling
hosted triggered s host = walk triggered everywhere (fills host) s (host ∷ [])
