-- `Queue::push`: the place after the last has room, and the list grows by x.
use Rattle.std.proofs.Common.{refl}
use Rattle.request_queue.proofs.Growing.{count_room, put-new, put-standing}
use Rattle.request_queue.proofs.inner.Queue.push.Goals as goal

pub bounds-self-self : goal.bounds-self-self
bounds-self-self c = let h = c.args.self.now.standing in count_room _ h.room h.within h.listed c.args.x c.requires.place c.if-self-at-ne0.false

pub invariant_of-self-2 : goal.invariant_of-self-2
invariant_of-self-2 c = record { standing = put-standing c.args.self.now.standing c.args.x c.requires.place c.if-self-at-ne0.false }

pub returns : goal.returns
returns c = record {
  kept = record { marks = refl; queue = refl; queued = put-standing c.args.self.now.standing c.args.x c.requires.place c.if-self-at-ne0.false };
  grown = put-new c.args.self.now.standing c.args.x c.requires.place c.if-self-at-ne0.false;
}
