-- `find_expected`: what is read back is the order, of modules.
-- Assumes nothing.
use Rattle.std.proofs.Common.{◌≡◌, length, take, drop, sym, ap, subst, ◌∙◌}
use lib.Seq.{take_at}
use Rattle.tables.specs.Readings.{modules}
use Rattle.tables.specs.Accepted.{Below}
use Rattle.expected_visit.specs.OfProject.{expected_of}
use Rattle.expected_visit.proofs.Laws.{expected-below}
use Rattle.expected_order.proofs.inner.find_expected.Goals as goal

pub returns-clause-members : goal.returns-clause-members
returns-clause-members c =
    let p = c.args.current.now in
    let list = expected_of p c.args.root in
    let w = rw c.columns.ensures.same at c.list_expected-count.ensures in
    let back : take c.list_expected-count.result c.list_expected-count.new.order ≡ list = ap (take c.list_expected-count.result) w.written ∙ take_at list (drop (length list) _) c.list_expected-count.result (sym w.count) in
    subst (Below (modules p)) (sym back) (expected-below p c.args.root)
