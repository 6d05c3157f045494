-- What the operation promises where the project is refused, and where the call is accepted.
-- Assumes nothing.
use Rattle.std.specs.Prelude.{◌≡◌, ℕ, ◌≤◌, true, leb, List, [], length, None, Some, Ok, Err}
use borrow.Author.Tests.{le-leb}
use Rattle.lists.proofs.Laws.{and-join}
use Rattle.tables.specs.Project.{Project}
use Rattle.tables.specs.Readings.{modules}
use Rattle.tables.specs.declared.Refusal.{Refusal}
use Rattle.tables.proofs.Answering.{verdict-project, verdict-none, answer-refused, answer-accepted, after-refused, after-accepted}
use Rattle.table.specs.Table.{Lent}
use Rattle.seeds.specs.Seeds.{seeds_fit}
use Rattle.worklist_plan.specs.inner.Written.{RunWritten}
use Rattle.takings_from_seeds.specs.Promise.{TakingsFromSeeds}

module _ (t : Lent) (seeds list lengths : List ℕ) where
  abbrev p : Project
  p = t.project

  -- a refused project changes nothing
  pub project-refused : {e : Refusal} → t.refused ≡ Some e → TakingsFromSeeds t seeds list lengths (Err e) list lengths
  project-refused h =
      let r = verdict-project _ _ h in
      record { members = []; sizes = []; run = λ z. cc (r, z); answered = answer-refused 0 r; listed = after-refused list [] r; measured = after-refused lengths [] r }

  -- an accepted call writes the run
  pub run-shown : t.refused ≡ None → seeds_fit (modules p) seeds ≡ true → modules p ≤ length list → modules p ≤ length lengths → {list' lengths' : List ℕ} {count : ℕ} → RunWritten p seeds list lengths list' lengths' count
      → TakingsFromSeeds t seeds list lengths (Ok count) list' lengths'
  run-shown accepts fits l m w =
      let z = verdict-none _ _ accepts fits (and-join (leb (modules p) (length list)) (leb (modules p) (length lengths)) (le-leb (modules p) (length list) l) (le-leb (modules p) (length lengths) m)) in
      record {
        members = w.members;
        sizes = w.sizes;
        run = λ e. w.run;
        answered = answer-accepted z w.count;
        listed = after-accepted list w.members z w.listed;
        measured = after-accepted lengths w.sizes z w.measured;
      }
