-- `mark_entry`: the order is of modules, as the marks are.
-- Assumes nothing.
use Rattle.std.proofs.Common.{sym, ◌∙◌}
use Rattle.rule_sets.proofs.Sizes.{sensitive-size}
use Rattle.asked_suffixes.proofs.inner.mark_entry.Goals as goal

pub mark_suffix-requires-clause-members : goal.mark_suffix-requires-clause-members
mark_suffix-requires-clause-members c =
    let sets = rw c.rooted.view_is at c.rooted.inside.sets.sets in
    rw (sensitive-size _ sets.sensitive_set) (rw c.rooted.view_is at c.find_expected-order.ensures.members)

pub mark_suffix-requires-clause-rows : goal.mark_suffix-requires-clause-rows
mark_suffix-requires-clause-rows c = c.requires.plan ∙ sym (sensitive-size _ (rw c.rooted.view_is at c.rooted.inside.sets.sets).sensitive_set)

pub mark_suffix-requires-clause-size : goal.mark_suffix-requires-clause-size
mark_suffix-requires-clause-size c = c.requires.size ∙ sym (sensitive-size _ (rw c.rooted.view_is at c.rooted.inside.sets.sets).sensitive_set)

pub returns : goal.returns
returns c =
    let sets = rw c.rooted.view_is at c.rooted.inside.sets.sets in
    rw (c.find_expected-order.ensures.order, c.rooted.view_is, sets.sensitive_set) at c.mark_suffix.ensures
