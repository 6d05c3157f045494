-- "Actual order and hosts" of an entry, over the columns that it reads and at a project.
-- Assumes nothing.
use Rattle.std.specs.Prelude.{ℕ, Bool, cond, not, ◌&&◌, List, [], ◌∷◌, length, replicate}
use mathlib.Core.List.{foldl}
use Rattle.lists.specs.Words.{is_zero, keep}
use Rattle.walk.specs.Walk.{St, visit, walk, snoc, everywhere}
use Rattle.tables.specs.Project.{Project, missing}
use Rattle.tables.specs.Readings.{chunks, is_normal, flagged, wrapped, is_eager, any_target, targets_of, members_of, entry_chunk_of}
use Rattle.load_order.specs.LoadOrder.{load_order}
use Rattle.visit_steps.specs.Hosts.{noted}

-- what executing modules makes: the list, and the noted hosts
pub record Executed : Type 0 where
  pub listed : List ℕ
  pub hosts : List ℕ

-- "then lists it; if it isn't the host, the host is noted"
abbrev pub note : ℕ → Executed → ℕ → Executed
note host e m = record { listed = snoc e.listed m; hosts = noted host e.hosts m }

-- "a normal, included .. module": "other modules do nothing"
abbrev pub executes : List ℕ → List ℕ → ℕ → Bool
executes normal included m = is_normal normal m && flagged included m

-- "its targets of kind 0 and 1 with wrap not 0"
unfoldable pub triggered : List ℕ → List ℕ → List ℕ → List ℕ → List ℕ → ℕ → List ℕ
triggered normal wrap record_module record_kind record_target m =
    keep (wrapped wrap) (targets_of is_eager any_target normal record_module record_kind record_target m)

-- "wrap 0"
abbrev pub unwrapped : List ℕ → ℕ → Bool
unwrapped wrap m = not (wrapped wrap m)

-- a chunk's "members with wrap 0 .. in order"
unfoldable pub eager_members : List ℕ → List ℕ → List ℕ → ℕ → List ℕ
eager_members wrap member_chunk member c = keep (unwrapped wrap) (members_of member_chunk member c)

module _ (normal included wrap record_module record_kind record_target : List ℕ) where
  -- "Executing a normal, included, unmet module first executes, under the same host, its targets .., then lists it": the walk, its own host
  unfoldable pub execute : St Executed → ℕ → St Executed
  execute st host =
      visit (triggered normal wrap record_module record_kind record_target) (executes normal included) (note host) (length normal) st host

  -- no module met, none listed, no host noted
  abbrev pub unexecuted : St Executed
  unexecuted = record {
    marks = replicate (length normal) 0;
    made = record { listed = []; hosts = replicate (length normal) missing };
  }

  -- "Then its members with wrap 0 execute in order, each its own host"
  unfoldable pub execute_members : List ℕ → List ℕ → St Executed → ℕ → St Executed
  execute_members member_chunk member st c = foldl execute st (eager_members wrap member_chunk member c)

  -- "A chunk visit visits the imported chunks first .. Then its members with wrap 0 execute ..": the walk over n chunks that load others, whose action on
  -- leaving a chunk is to execute its members
  unfoldable pub visit_chunk : List ℕ → List ℕ → (ℕ → List ℕ) → ℕ → St Executed → ℕ → St Executed
  visit_chunk member_chunk member loads n st c =
      (walk loads everywhere (execute_members member_chunk member) (record { marks = replicate n 0; made = st }) (c ∷ [])).made

  -- a chunk's visit from nothing, and "Last, a root with wrap not 0 executes"
  unfoldable pub run_from : List ℕ → List ℕ → (ℕ → List ℕ) → ℕ → ℕ → ℕ → Executed
  run_from member_chunk member loads n root chunk =
      (foldl execute (visit_chunk member_chunk member loads n unexecuted chunk) (cond (wrapped wrap root) (root ∷ []) [])).made

-- the run of a root from its entry chunk, with the wraps as they are given
unfoldable pub run_of : Project → List ℕ → ℕ → Executed
run_of p wrap root =
    run_from p.normal p.included wrap p.record_module p.record_kind p.record_target p.member_chunk p.member (load_order p.order p.import_chunk p.imports) (chunks p) root (entry_chunk_of p root)

-- "every planned module's wrap read as 2 and other wraps as written" (C-19): the wraps, with 2 for each module of a set
abbrev pub read_as_two : List ℕ → List ℕ → List ℕ
read_as_two S [] = []
read_as_two [] (w ∷ wraps) = w ∷ wraps
read_as_two (x ∷ S) (w ∷ wraps) = cond (is_zero x) w 2 ∷ read_as_two S wraps

-- the actual order of a root
unfoldable pub actual_of : Project → ℕ → List ℕ
actual_of p root = (run_of p p.wrap root).listed

-- its hosts: a place a module, the mark where none is noted
unfoldable pub hosts_of : Project → ℕ → List ℕ
hosts_of p root = (run_of p p.wrap root).hosts
