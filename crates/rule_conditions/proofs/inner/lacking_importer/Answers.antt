-- `rule_conditions::inner::lacking_importer`: what the rule adds to a copy is what the plan lacks.
-- Assumes nothing.
use Rattle.wrap_rules.specs.Plan.{import_rule}
use Rattle.import_rule.proofs.OfProject.{blank-leading}
use Rattle.rule_conditions.proofs.inner.lacking_importer.Goals as goal

pub pass_importers-requires : goal.pass_importers-requires
pass_importers-requires c =
    record {
      edges = c.requires.edges;
      plan = rw c.copy_from_slice.ensures.after c.requires.plan;
      leads = blank-leading _ 4096 _ _ c.modules.ensures.few (rw c.reached.view_is at c.modules.ensures.count);
    }

pub returns : goal.returns
returns c =
    let added = rw c.copy_from_slice.ensures.after at c.pass_importers.ensures.added in
    (rw c.reached.view_is at c.lowest_added.ensures) import_rule _ added
