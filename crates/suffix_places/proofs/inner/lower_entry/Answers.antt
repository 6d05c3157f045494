-- `lower_entry`: the order is of modules.
-- Assumes nothing.
use Rattle.std.proofs.Common.{◌∙◌}
use Rattle.suffix_places.proofs.inner.lower_entry.Goals as goal

pub lower_order-requires-clause-members : goal.lower_order-requires-clause-members
lower_order-requires-clause-members c = rw c.requires.marks.size c.find_expected-order.ensures.members

pub is_listed-requires-clause-members : goal.is_listed-requires-clause-members
is_listed-requires-clause-members c = rw (c.requires.marks.sensitives ∙ c.requires.marks.size) c.find_expected-order.ensures.members
