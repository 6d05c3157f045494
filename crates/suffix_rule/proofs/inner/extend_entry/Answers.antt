-- `extend_entry`: the order is of modules, as the marks are.
-- Assumes nothing.
use Rattle.std.proofs.Common.{sym, ◌∙◌}
use Rattle.rule_sets.proofs.Sizes.{sensitive-size, eligible-size}
use Rattle.suffix_rule.proofs.inner.extend_entry.Goals as goal

pub extend_order-requires-clause-members : goal.extend_order-requires-clause-members
extend_order-requires-clause-members c = rw c.requires.plan (rw c.rooted.view_is at c.find_expected-order.ensures.members)

pub extend_order-requires-clause-sensitive : goal.extend_order-requires-clause-sensitive
extend_order-requires-clause-sensitive c = sensitive-size _ (rw c.rooted.view_is at c.rooted.inside.sets.sets).sensitive_set ∙ sym c.requires.plan

pub extend_order-requires-clause-eligible : goal.extend_order-requires-clause-eligible
extend_order-requires-clause-eligible c = eligible-size _ (rw c.rooted.view_is at c.rooted.inside.sets.sets).eligible_set ∙ sym c.requires.plan
