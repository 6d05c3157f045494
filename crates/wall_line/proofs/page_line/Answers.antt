-- `wall_line::page_line` keeps its promise: an accepted call writes the line.
-- Assumes nothing.
use Rattle.std.proofs.Common.{◌≡◌, true, refl, arith}
use Rattle.tables.specs.Readings.{is_analysed}
use Rattle.table.specs.Table.{read, current}
use Rattle.table.specs.Lending.{written}
use Rattle.arrangement.specs.OfProject.{named, as_named}
use Rattle.arrangement.proofs.OfProject.{lent-named}
use Rattle.wall_line.proofs.Promise.{line-put}
use Rattle.wall_line.proofs.page_line.Goals as goal

pub as_read-entry-requires : goal.as_read-entry-requires
unfolding read current named
as_read-entry-requires c = rw (c.in-Some.ensures.1, c.in_ok-written.ensures.project, c.read_arranged-current.ensures) refl

pub returns : goal.returns
unfolding read current named is_analysed
returns c =
    let a = c.args in
    let t = a.table.now in
    let passed = c.in_ok-written.ensures in
    let entry = c.as_read-entry.ensures in
    let analysed : is_analysed (as_named t).project a.root ≡ true = rw passed.project at c.in-Some.ensures.0 in
    line-put _ a.root a.number a.line.now passed.passed analysed (omega arith) (lent-named t.bounds.now t.columns.now t.names.now (written t) passed.passed)
    (rw (entry.table, entry.root, c.in-Some.ensures.2, c.read_arranged-current.ensures) at c.put_whole_line-count.ensures)
