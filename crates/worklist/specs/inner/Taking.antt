-- The run of a worklist, at a project.
-- Assumes nothing.
use Rattle.std.specs.Prelude.{◌≡◌, ℕ, ◌<◌, ◌≤◌, List, [], length, take, replicate, slice_index}
use Rattle.tables.specs.Project.{Project}
use Rattle.tables.specs.Readings.{modules}
use Rattle.takings.specs.Taking.{Takes}
use Rattle.strong_connection.specs.inner.Graph.{EdgeColumns}
use Rattle.request_queue.specs.inner.Growing.{Listing, Listed}
use Rattle.worklist_step.specs.inner.Step.{nodes}
use Rattle.worklist_taking.specs.inner.State.{RuleNotes, Batch, State, rule_of, start_of}

-- none of n places is listed
abbrev pub blank : ℕ → Listing
blank n = record { marks = replicate n 0; list = [] }

-- nothing is met or listed, and what is noted is right for that
pub record Fresh (p : Project) (met list : Listing) (notes : RuleNotes) : Type 0 where
  pub none : met ≡ blank nodes
  pub empty : list ≡ blank (modules p)
  pub batch : Batch p list.marks notes 0

-- after k takings, `end` of which are noted for rule (i): the lists so far are a chain of takings
pub record Running (p : Project) (seeds : List ℕ) (g : EdgeColumns) (met list : Listing) (notes : RuleNotes) (k end : ℕ) : Type 0 where
  pub state : State p seeds g met list k
  pub takes : Takes (rule_of p) (start_of p seeds) list.list k
  pub batch : Batch p list.marks notes end
  pub started : k ≤ end
  pub within : end ≤ length list.list

-- of `lengths` the first k places now say how long the list was after as many takings, and the others are as they were
pub record Noted (p : Project) (seeds list lengths lengths' : List ℕ) (k : ℕ) : Type 0 where
  pub room : length lengths' ≡ length lengths
  pub within : (j : ℕ) → j < k → slice_index lengths' j ≤ length list
  pub takes : (j : ℕ) → j < k → Takes (rule_of p) (start_of p seeds) (take (slice_index lengths' j) list) j
  pub rest : (j : ℕ) → k ≤ j → slice_index lengths' j ≡ slice_index lengths j

-- the run is a chain of takings, all are taken, and the lengths are noted
pub record TakenAll (p : Project) (seeds placed' list' lengths lengths' : List ℕ) (count' : ℕ) : Type 0 where
  pub size : length placed' ≡ modules p
  pub listed : Listed placed' list'
  pub count : count' ≡ length list'
  pub takes : Takes (rule_of p) (start_of p seeds) list' count'
  pub noted : Noted p seeds list' lengths lengths' count'
