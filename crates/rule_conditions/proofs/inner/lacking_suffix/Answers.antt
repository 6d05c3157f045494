-- `rule_conditions::inner::lacking_suffix`: what the rule adds to a copy is what the plan lacks.
-- Assumes nothing.
use Rattle.wrap_rules.specs.Plan.{suffix_rule}
use Rattle.rule_conditions.proofs.inner.lacking_suffix.Goals as goal

pub add_suffixes-requires : goal.add_suffixes-requires
add_suffixes-requires c = record { plan = c.requires.plan; copy = c.copy_from_slice.ensures.after }

pub returns : goal.returns
returns c =
    let added = c.add_suffixes.ensures in
    (rw c.rooted.view_is at c.lowest_added.ensures) suffix_rule _ added
