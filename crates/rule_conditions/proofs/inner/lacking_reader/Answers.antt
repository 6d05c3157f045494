-- `rule_conditions::inner::lacking_reader`: what the rule adds to a copy is what the plan lacks.
-- Assumes nothing.
use Rattle.wrap_rules.specs.Plan.{read_rule}
use Rattle.rule_conditions.proofs.inner.lacking_reader.Goals as goal

pub pass_readers-requires : goal.pass_readers-requires
pass_readers-requires c = rw c.copy_from_slice.ensures.after c.requires.plan

pub returns : goal.returns
returns c =
    let added = rw c.copy_from_slice.ensures.after at c.pass_readers.ensures in
    (rw c.reached.view_is at c.lowest_added.ensures) read_rule _ added
