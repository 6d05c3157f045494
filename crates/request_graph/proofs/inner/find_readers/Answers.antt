-- `find_readers`: there is a mark for each module.
-- Assumes nothing.
use Rattle.std.proofs.Common.{sym, ◌∙◌}
use Rattle.current_columns.specs.AsProject.{project}
use Rattle.marks.proofs.Parts.{part_length}
use Rattle.rule_sets.proofs.Sizes.{candidate-size}
use Rattle.request_graph.proofs.inner.find_readers.Goals as goal

pub number_chosen-requires-clause-first : goal.number_chosen-requires-clause-first
unfolding project
number_chosen-requires-clause-first c =
    let t = c.columns-columns.ensures in
    let ok = (rw (← t.same, ← c.columns.view_is) at t.accepted).sizes in
    candidate-size _ (rw (← t.same, ← c.columns.view_is) at c.reached.invariant) ∙ sym (part_length 4096 _ ok.normal)
