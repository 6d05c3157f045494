-- `entry_run::inner::list_prepared`: the columns, lent to the visits.
-- Assumes nothing.
use Rattle.current_columns.specs.AsProject.{project}
use Rattle.analysed_entries.specs.inner.Entries.{Entry}
use Rattle.entry_run.proofs.OverTable.{runnable, made-listed}
use Rattle.entry_run.proofs.inner.list_prepared.Goals as goal

pub actual_order_for_root-requires : goal.actual_order_for_root-requires
unfolding project
actual_order_for_root-requires c =
    let a = rw (← c.columns-read.ensures.same, ← c.read.view_is) at c.columns-read.ensures.accepted in
    let k = rw (← c.columns-read.ensures.same, ← c.read.view_is) at c.requires.prepared in
    let e : Entry c.args.entry.now.current.now c.args.entry.now.root c.args.entry.now.chunk = c.args.entry.now.entry in
    let entry = rw (← c.columns-read.ensures.same, ← c.read.view_is) at e in
    let places = rw (← c.columns-read.ensures.same, ← c.read.view_is) at c.requires.places in
    runnable (project c.read.inside) a k.0 c.args.columns.now k.1 c.args.entry.now.root c.args.entry.now.chunk entry c.args.order.now c.args.hosts.now places

pub returns : goal.returns
unfolding project
returns c =
    let a = rw (← c.columns-read.ensures.same, ← c.read.view_is) at c.columns-read.ensures.accepted in
    let e : Entry c.args.entry.now.current.now c.args.entry.now.root c.args.entry.now.chunk = c.args.entry.now.entry in
    let entry = rw (← c.columns-read.ensures.same, ← c.read.view_is) at e in
    let places = rw (← c.columns-read.ensures.same, ← c.read.view_is) at c.requires.places in
    rw (← c.columns-read.ensures.same, ← c.read.view_is)
    (λ wraps k.
    made-listed (project c.read.inside) a wraps c.args.columns.now k c.args.entry.now.root c.args.entry.now.chunk entry c.args.order.now c.args.hosts.now places
    c.actual_order_for_root.new.order c.actual_order_for_root.new.hosts c.actual_order_for_root.result c.actual_order_for_root.ensures)
