-- `mark_risks`: from nothing marked, the risk of each root is added.
use Rattle.std.proofs.Common.{arith}
use Rattle.order_analysis.proofs.Analyses.{risks-marked}
use Rattle.reached_modules.proofs.Few.{entries-few}
use Rattle.reached_modules.proofs.Choosing.{written_read}
use Rattle.order_analysis.proofs.inner.mark_risks.Goals as goal

pub returns : goal.returns
returns c = risks-marked c.args.labelled.now c.args.out.now c.requires c.fill.ensures (rw c.labelled.view_is at c.add_risks.ensures)

pub list_roots-count-requires-clause-room : goal.list_roots-count-requires-clause-room
list_roots-count-requires-clause-room c =
    let accepted = c.columns.ensures.accepted in
    rw c.columns.ensures.same (omega (arith, entries-few _ accepted, accepted.sizes.normal))

pub add_risks-requires-clause-roots : goal.add_risks-requires-clause-roots
add_risks-requires-clause-roots c = written_read (rw c.columns.ensures.same at c.list_roots-count.ensures)
