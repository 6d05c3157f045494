-- `list_entries`: visits of the entries over marks that are 0.
-- Assumes nothing.
use Rattle.std.proofs.Common.{length, refl, ap, ◌∙◌, arith}
use Rattle.lists.specs.Words.{zeros}
use Rattle.lists.proofs.Fronts.{take-zeros}
use Rattle.walk.proofs.Visits.{zeros-replicate}
use Rattle.current_columns.specs.AsProject.{project}
use Rattle.entries_order.proofs.Turns.{entries-written}
use Rattle.entries_order.proofs.inner.list_entries.Goals as goal

pub visit_entries-requires-clause-room : goal.visit_entries-requires-clause-room
unfolding project
visit_entries-requires-clause-room c =
    let n = length c.columns.inside.normal.now in
    let few = rw (← c.columns.view_is) at c.requires.fit.few in
    let room = rw (← c.columns.view_is) at c.requires.entered.room in
    omega (arith, ap zeros (take-zeros n 4096 few) ∙ zeros-replicate n, room)

pub returns : goal.returns
unfolding project
returns c =
    let few = rw (← c.columns.view_is) at c.requires.fit.few in
    let room = rw (← c.columns.view_is) at c.requires.entered.room in
    rw (← c.columns.view_is) (entries-written _ _ _ _ _ _ _ _ (take-zeros _ 4096 few) refl room (rw (← c.columns.view_is) at c.visit_entries.ensures))
