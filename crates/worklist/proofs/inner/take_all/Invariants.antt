-- After each taking the lists so far are a chain of takings.
-- Assumes nothing.
use Rattle.std.proofs.Common.{◌-◌}
use Rattle.tables.specs.Readings.{modules}
use Rattle.request_queue.specs.inner.Lent.{listing, Kept}
use Rattle.worklist_batch.specs.inner.Lent.{notes_of, NotesKept}
use Rattle.worklist.specs.inner.Taking.{Running, Noted}
use Rattle.worklist.proofs.inner.take_all.Given as goal

abbrev pub invariant-loop-k : goal.invariant-loop-k
invariant-loop-k l = record {
  met : Kept l.fn.met l.met;
  list : Kept l.fn.list l.list;
  notes : NotesKept l.fn.notes l.notes;
  running : Running l.rooted l.seeds l.graph (listing l.met) (listing l.list) (notes_of l.notes) l.k l.end;
  noted : Noted l.rooted l.seeds (listing l.list).list l.initial.lengths l.lengths l.k;
}

abbrev pub decreases-loop-k : goal.decreases-loop-k
decreases-loop-k l = modules l.rooted - l.k
