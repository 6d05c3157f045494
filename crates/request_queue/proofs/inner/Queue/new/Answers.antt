-- `Queue::new`: nothing is listed.
use Rattle.std.proofs.Common.{rules, ◌≡◌, length, replicate}
use Rattle.request_queue.proofs.Growing.{none-standing}
use Rattle.request_queue.proofs.inner.Queue.new.Goals as goal

pub invariant_of-result : goal.invariant_of-result
invariant_of-result c = record {
  standing =
      let z : c.fill.new.self ≡ replicate (length c.args.marks.now) 0 = search rules in
      rw z (none-standing (length c.args.marks.now) c.args.queue.now c.requires.few c.requires.room);
}
