-- `list_roots`: there is a place for each entry.
-- Assumes nothing.
use Rattle.std.proofs.Common.{arith}
use Rattle.current_columns.specs.AsProject.{project}
use Rattle.lists.proofs.Zips.{turn_at}
use Rattle.reached_modules.proofs.inner.list_roots.Goals as goal

pub bounds-list-count : goal.bounds-list-count
unfolding project
bounds-list-count c =
    let l = c.loop-m in
    let t = turn_at c.columns.inside.entry.now c.columns.inside.entry_chunk.now l.yielded c.into_iter-m-iterator.result l.m-iterator c.next.new.self (cc) (cc c.zip-m-items.ensures.second.0) l.yielded_by (c.in-Some.field-0-0, c.in-Some.field-0-1) c.in-Some.ensures.steps in
    omega (arith, t.first_in, l.invariant.few, l.auto.list, rw (← c.columns.view_is) at c.requires.room)
