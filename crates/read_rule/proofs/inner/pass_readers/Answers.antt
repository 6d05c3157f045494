-- `pass_readers`: over the columns of an accepted project.
-- Assumes nothing.
use Rattle.read_rule.proofs.OfProject.{symbols-fit, reading-fit, read-pass}
use Rattle.read_rule.proofs.inner.pass_readers.Goals as goal

pub close_top_level_readers-requires-clause-symbols : goal.close_top_level_readers-requires-clause-symbols
close_top_level_readers-requires-clause-symbols c =
    let p = c.args.reached.now in
    let reached = rw c.reached.view_is at c.reached.invariant in
    rw (c.columns-columns.ensures.same, c.reached.view_is) (symbols-fit p reached.accepted)

pub close_top_level_readers-requires-clause-columns : goal.close_top_level_readers-requires-clause-columns
close_top_level_readers-requires-clause-columns c =
    let p = c.args.reached.now in
    let reached = rw c.reached.view_is at c.reached.invariant in
    rw (c.columns-columns.ensures.same, c.reached.view_is, reached.candidate_set, c.requires.size) (reading-fit p reached.accepted)

pub returns : goal.returns
returns c =
    let p = c.args.reached.now in
    let reached = rw c.reached.view_is at c.reached.invariant in
    read-pass p reached.accepted c.args.plan.now (rw (c.columns-columns.ensures.same, c.reached.view_is, reached.candidate_set) at c.close_top_level_readers.ensures)
