-- `Notes::note`: for all that are listed the least places are looked for anew, and threaded.
-- Assumes nothing.
use Rattle.std.proofs.Common.{sym, ◌∙◌}
use Rattle.rule_sets.proofs.Sizes.{sensitive-size, eligible-size, roots-in}
use Rattle.worklist_batch.proofs.Noting.{all_small, lowest-batch}
use Rattle.worklist_batch.proofs.inner.Notes.note.Goals as goal

pub lower_entries-requires-clause-marks : goal.lower_entries-requires-clause-marks
lower_entries-requires-clause-marks c =
    let sets = c.rooted.inside.sets.sets in
    let n = c.fill.auto.slots ∙ (rw (← c.rooted.view_is) at c.requires.noting).len in
    record { size = n; sensitives = sensitive-size _ sets.sensitive_set ∙ sym n; eligibles = eligible-size _ sets.eligible_set ∙ sym n }

pub lower_entries-requires-clause-small : goal.lower_entries-requires-clause-small
lower_entries-requires-clause-small c = all_small _ _ c.fill.ensures

pub lower_entries-requires-clause-roots : goal.lower_entries-requires-clause-roots
lower_entries-requires-clause-roots c =
    rw (c.fill.auto.slots ∙ (rw (← c.rooted.view_is) at c.requires.noting).len) (roots-in _ c.rooted.invariant)

pub returns-clause-batch : goal.returns-clause-batch
returns-clause-batch c =
    let s = rw c.rooted.view_is at c.rooted.invariant in
    let sets = rw c.rooted.view_is at c.rooted.inside.sets.sets in
    let n = c.requires.noting.len in
    let lowest = rw (c.rooted.view_is, s.root, sets.sensitive_set, sets.eligible_set) at c.lower_entries.ensures in
    lowest-batch c.args.rooted.now _ _ _ _ (lowest.len ∙ c.fill.auto.slots ∙ n) (rw n at c.fill.ensures) lowest
