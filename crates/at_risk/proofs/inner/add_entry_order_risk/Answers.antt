-- `at_risk::inner::add_entry_order_risk`: the actual order and the hosts, as two local arrays hold them.
-- Assumes nothing.
use Rattle.std.proofs.Common.{length, refl, sym, ap, ◌∙◌, arith}
use lib.Seq.{length-take-le}
use Rattle.lists.specs.Words.{has}
use Rattle.lists.proofs.Laws.{length-marks_of}
use Rattle.tables.specs.Readings.{modules}
use Rattle.entry_run.specs.Actual.{actual_of, hosts_of}
use Rattle.entry_run.proofs.OfProject.{hosts-length}
use Rattle.sensitivity.proofs.Marks.{sensitive-marks, length-grounds}
use Rattle.eligibility.specs.Eligible.{eligible}
use Rattle.eligibility.proofs.Eligible.{eligible-marks}
use Rattle.at_risk.proofs.Listed.{actual-order, written-room, written-is}
use Rattle.at_risk.proofs.inner.add_entry_order_risk.Goals as goal

pub list_actual-count-requires-clause-places : goal.list_actual-count-requires-clause-places
list_actual-count-requires-clause-places c = record { size = length-take-le _ _ (omega arith) ∙ c.modules.ensures.count; room = omega arith }

pub slice_bounds-actual-end : goal.slice_bounds-actual-end
slice_bounds-actual-end c = written-room c.list_actual-count.ensures.listed

pub slice_bounds-add_order_risk-end : goal.slice_bounds-add_order_risk-end
slice_bounds-add_order_risk-end c = sym (length-take-le _ _ (written-room c.list_actual-count.ensures.listed))

pub add_order_risk-requires-clause-orders : goal.add_order_risk-requires-clause-orders
unfolding actual_of
add_order_risk-requires-clause-orders c =
    rw c.requires.placed.size (c.requires.placed.order, rw (written-is c.list_actual-count.ensures.listed) (actual-order c.args.entry.now.current.now (omega arith) c.args.entry.now.root))

pub invariant_of-risk_columns : goal.invariant_of-risk_columns
unfolding hosts_of
invariant_of-risk_columns c =
    let p = c.args.entry.now.current.now in
    let same = sym (hosts-length p c.args.entry.now.root) ∙ sym (ap length c.list_actual-count.ensures.hosts) in
    let sets = rw c.requires.sets at c.args.sets.now.sets in
    record {
      host_rows = refl;
      sensitive_rows = ap length sets.sensitive_set ∙ length-grounds p ∙ same;
      eligible_rows = ap length sets.eligible_set ∙ length-marks_of (eligible p) (modules p) ∙ same;
    }

pub add_order_risk-requires-clause-rows : goal.add_order_risk-requires-clause-rows
unfolding hosts_of
add_order_risk-requires-clause-rows c = ap length c.list_actual-count.ensures.hosts ∙ hosts-length c.args.entry.now.current.now c.args.entry.now.root ∙ sym c.requires.placed.size

pub returns : goal.returns
unfolding actual_of hosts_of
returns c =
    let p = c.args.entry.now.current.now in
    let sets = rw c.requires.sets at c.args.sets.now.sets in
    cc (ap has sets.sensitive_set ∙ sensitive-marks p, ap has sets.eligible_set ∙ eligible-marks p, written-is c.list_actual-count.ensures.listed)
