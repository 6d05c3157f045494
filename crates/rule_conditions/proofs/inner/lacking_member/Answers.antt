-- `rule_conditions::inner::lacking_member`: what the rule adds to a copy is what the plan lacks.
-- Assumes nothing.
use Rattle.wrap_rules.specs.Plan.{component_rule}
use Rattle.rule_conditions.proofs.inner.lacking_member.Goals as goal

pub pass_members-requires : goal.pass_members-requires
pass_members-requires c = rw c.copy_from_slice.ensures.after c.requires.plan

pub returns : goal.returns
returns c =
    let added = rw c.copy_from_slice.ensures.after at c.pass_members.ensures in
    (rw c.labelled.view_is at c.lowest_added.ensures) component_rule _ added
