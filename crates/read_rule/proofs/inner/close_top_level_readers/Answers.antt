-- References that touch, modules that have them, and of these the candidates that read.
-- Assumes nothing.
use Rattle.std.proofs.Common.{length, ◌∙◌, arith}
use Rattle.current_columns.specs.AsProject.{project}
use Rattle.marks.specs.Steps.{InAll}
use Rattle.marks.proofs.Parts.{part_none, part_length}
use Rattle.marks.proofs.Steps.{added_none, added-cong}
use Rattle.read_rule.proofs.Marking.{marked-read, read-marked}
use Rattle.read_rule.proofs.inner.close_top_level_readers.Goals as goal

pub returns-then-not-any_open : goal.returns-then-not-any_open
unfolding project
returns-then-not-any_open c = rw (← c.columns.view_is) (added_none _ c.args.plan.now (λ m l r. c.any_open.ensures c.if-not-any_open.true m l r.reading r.candidate))

pub mark_readers-requires-clause-none : goal.mark_readers-requires-clause-none
mark_readers-requires-clause-none c = part_none 4096 (length c.args.plan.now)

pub returns : goal.returns
unfolding project
returns c =
    let p = project c.columns.inside in
    let r = rw (← c.columns.view_is) at c.requires in
    let candidates = c.args.candidates.now in
    let plan = c.args.plan.now in
    let references = c.mark_touching.new.references in
    let readers = c.mark_readers.new.readers in
    let touching = rw (← c.columns.view_is) at c.mark_touching.ensures in
    let reading = rw (← c.columns.view_is) at c.mark_readers.ensures in
    let size = c.mark_touching.auto.references ∙ part_length 16384 _ r.columns.few_references in
    let count = c.mark_readers.auto.readers ∙ part_length 4096 _ r.columns.few in
    rw (← c.columns.view_is)
    (added-cong (InAll readers p.reads candidates) _
    (λ m l. read-marked p candidates plan references readers size touching reading m (omega (arith, count)))
    (marked-read p candidates plan references readers size touching reading)
    c.add.ensures)
