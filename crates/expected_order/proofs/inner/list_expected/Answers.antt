-- `expected_order::inner::list_expected`: a visit of the root over zeroed marks.
-- Assumes nothing.
use Rattle.std.proofs.Common.{rules, ◌≡◌, length, replicate}
use Rattle.current_columns.specs.AsProject.{project}
use Rattle.expected_order.proofs.Entries.{external_listed, root_listed}
use Rattle.expected_order.proofs.inner.list_expected.Goals as goal

pub returns-then-columns-root-ne1 : goal.returns-then-columns-root-ne1
unfolding project
returns-then-columns-root-ne1 c = rw (← c.columns.view_is) (external_listed _ _ _ _ _ c.if-columns-root-ne1.true (search rules))

pub returns : goal.returns
unfolding project
returns c =
    let zeroed : c.fill.new.self ≡ replicate (length c.args.marks.now) 0 = search rules in
    let again : c.fill-2.new.self ≡ replicate (length c.visit-count.new.marks) 0 = search rules in
    rw (← c.columns.view_is)
    (root_listed _ _ _ _ _ _ _ _ _ c.if-columns-root-ne1.false (rw (← c.columns.view_is) at c.requires.rooted.size) c.requires.rooted.room zeroed (rw (← c.columns.view_is) at c.visit-count.ensures) c.visit-count.auto.marks again)
