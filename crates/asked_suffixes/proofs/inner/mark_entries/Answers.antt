-- `mark_entries`: one root more.
-- Assumes nothing.
use Rattle.wrap_rules.specs.Plan.{roots}
use Rattle.rule_sets.proofs.Sizes.{roots-in}
use Rattle.asked_suffixes.proofs.Marking.{before-none, before_more, before-end}
use Rattle.asked_suffixes.proofs.inner.mark_entries.Goals as goal

pub loop-root-init : goal.loop-root-init
loop-root-init c = before-none _ (roots c.args.rooted.now) _ c.args.plan.now _

pub mark_entry-requires-clause-root : goal.mark_entry-requires-clause-root
mark_entry-requires-clause-root c = roots-in _ (rw c.rooted.view_is at c.rooted.invariant) c.loop-root.root-index c.loop-root-test.true

pub loop-root-preserved : goal.loop-root-preserved
loop-root-preserved c =
    let s = rw c.rooted.view_is at c.rooted.invariant in
    before_more _ _ _ _ _ (rw s.root at c.loop-root-test.true) c.loop-root.invariant (rw s.root at c.mark_entry.ensures)

pub returns : goal.returns
returns c =
    let s = rw c.rooted.view_is at c.rooted.invariant in
    before-end _ _ _ _ _ (rw s.root at c.loop-root-test.false) c.loop-root.invariant
