-- `worklist_plan::inner::list_takings`: the list is written from its members' places.
-- Assumes nothing.
use Rattle.std.proofs.Common.{arith}
use Rattle.worklist_plan.proofs.Writing.{place-fits, run_fits, run-written}
use Rattle.worklist_plan.proofs.inner.list_takings.Goals as goal

pub write_listed-requires : goal.write_listed-requires
write_listed-requires c =
    let r = c.run_table-count.ensures in
    record {
      few = omega (arith, r.taken.size, c.modules-n.ensures.few, c.modules-n.ensures.count);
      room = λ m. omega (arith, place-fits r.taken.listed m, run_fits r, r.taken.count, c.requires.list);
    }

pub returns : goal.returns
returns c = run-written c.run_table-count.ensures c.requires.list c.requires.lengths c.write_listed.ensures
