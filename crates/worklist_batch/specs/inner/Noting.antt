-- What noting a batch asks and does, at a project.
-- Assumes nothing.
use Rattle.std.specs.Prelude.{◌≡◌, ℕ, ◌+◌, ◌<◌, ◌≤◌, List, length}
use Rattle.tables.specs.Project.{Project}
use Rattle.tables.specs.Readings.{modules}
use Rattle.tables.specs.Refusal.{module_limit}
use Rattle.threads.specs.inner.Rows.{Threaded}
use Rattle.suffix_rule.specs.inner.Suffix.{Settling}
use Rattle.request_queue.specs.inner.Growing.{Listing}
use Rattle.suffix_places.specs.inner.Places.{never}
use Rattle.worklist_taking.specs.inner.State.{RuleNotes, Batch}

-- slices that the notes fit in
pub record NoteRoom (asked heads nexts : List ℕ) : Type 0 where
  pub few : length asked ≤ module_limit
  pub room : length heads ≡ never + 1
  pub places : length nexts ≡ length asked

-- slices of notes: each number of takings leads to the modules that are asked for after it
pub record Led (asked heads nexts : List ℕ) : Type 0 where
  pub few : length asked ≤ module_limit
  pub room : length heads ≡ never + 1
  pub threads : Threaded asked heads nexts

pub record Noting (p : Project) (placed : List ℕ) (notes : RuleNotes) : Type 0 where
  pub size : length placed ≡ modules p
  pub settling : Settling p notes.settled placed
  pub len : length notes.asked ≡ modules p

-- between two takings
pub record Batching (p : Project) (list : Listing) (notes : RuleNotes) (k end : ℕ) : Type 0 where
  pub size : length list.marks ≡ modules p
  pub batch : Batch p list.marks notes end
  pub started : k ≤ end
  pub within : end ≤ length list.list
  pub ahead : k < length list.list

pub record Advanced (p : Project) (list : Listing) (k : ℕ) (notes' : RuleNotes) (end' : ℕ) : Type 0 where
  pub batch : Batch p list.marks notes' end'
  pub before : k < end'
  pub within : end' ≤ length list.list
