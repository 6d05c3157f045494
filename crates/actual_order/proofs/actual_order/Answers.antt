-- `actual_order::actual_order` keeps its promise: an accepted call writes the entry's run.
-- Assumes nothing.
use Rattle.std.proofs.Common.{◌≡◌, true, refl, arith}
use Rattle.tables.specs.Readings.{is_analysed}
use Rattle.table.specs.Table.{read, current}
use Rattle.arrangement.specs.OfProject.{named, as_named}
use Rattle.actual_order.proofs.Promise.{run-counted}
use Rattle.actual_order.proofs.actual_order.Goals as goal

pub as_read-entry-requires : goal.as_read-entry-requires
unfolding read current named
as_read-entry-requires c = rw (c.in-Some.ensures.1, c.in_ok-written.ensures.project, c.read_arranged-current.ensures) refl

pub returns : goal.returns
unfolding read current named is_analysed
returns c =
    let t = c.args.table.now in
    let passed = c.in_ok-written.ensures in
    let entry = c.as_read-entry.ensures in
    let analysed : is_analysed (as_named t).project c.args.root ≡ true = rw passed.project at c.in-Some.ensures.0 in
    let count = rw passed.project at c.modules-modules.ensures.count in
    rw count (run-counted _ c.args.root c.args.order.now c.args.hosts.now passed.passed analysed (omega arith) (omega arith) (rw (entry.table, entry.root, c.in-Some.ensures.2, c.read_arranged-current.ensures) at c.prepare_and_list-count.ensures))
