-- What chunk visits ask and ensure, over columns alone.
-- Assumes nothing.
use Rattle.std.specs.Prelude.{◌≡◌, ℕ, ◌<◌, List, [], ◌∷◌, length}
use mathlib.Core.List.{foldl}
use Rattle.lists.specs.Words.{keep}
use Rattle.walk.specs.Walk.{St, Visits, everywhere}
use Rattle.tables.specs.Accepted.{Below, BelowOrMissing}
use Rattle.visit_columns.specs.declared.inner.VisitColumns.{VisitColumns}
use Rattle.visit_steps.specs.declared.inner.ActualOrderTraversal.{ActualOrderTraversal}
use Rattle.visit_steps.specs.inner.Steps.{Spans, leads, part, Filling, in_way}
use Rattle.module_visits.specs.inner.Visits.{Ready, hosted}

-- the chunks that a chunk loads
abbrev pub loads_of : VisitColumns → ℕ → List ℕ
loads_of columns = leads columns.load_starts.now columns.loads.now

-- the modules that a module triggers
abbrev pub triggers_of : VisitColumns → ℕ → List ℕ
triggers_of columns = leads columns.starts.now columns.triggers.now

-- "its members with wrap 0 execute in order, each its own host", into the slices
unfoldable pub ran_members : VisitColumns → List ℕ → St Filling → ℕ → St Filling
ran_members columns member s c = foldl (hosted (triggers_of columns)) s (keep (in_way 1 columns.ways.now) (part columns.member_starts.now member c))

-- what a chunk's visit asks: modules can execute, each chunk has rows of members and of loads, and c is a chunk
pub record Visitable (columns : VisitColumns) (member chunk_marks marks order hosts : List ℕ) (c : ℕ) (t : ActualOrderTraversal) : Type 0 where
  pub ready : Ready columns.starts.now columns.triggers.now marks order hosts t
  pub each : length columns.ways.now ≡ length marks
  pub members : Below (length marks) member
  pub parts : Spans columns.member_starts.now (length member) (length chunk_marks)
  pub spans : Spans columns.load_starts.now (length columns.loads.now) (length chunk_marks)
  pub inside : BelowOrMissing (length chunk_marks) columns.loads.now
  pub chunk : c < length chunk_marks

-- a chunk's visit from s, and then some modules with wrap not 0, each its own host, make t
pub record Ran (columns : VisitColumns) (member : List ℕ) (c : ℕ) (last chunk_marks : List ℕ) (s : St Filling) (chunk_marks' : List ℕ) (t : St Filling) : Type 0 where
  pub visited : St Filling
  pub visits : Visits (loads_of columns) everywhere (ran_members columns member) (record { marks = chunk_marks; made = s }) (c ∷ []) (record { marks = chunk_marks'; made = visited })
  pub finally : foldl (hosted (triggers_of columns)) visited (keep (in_way 2 columns.ways.now) last) ≡ t
