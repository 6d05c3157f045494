-- `thread`: the last row that is left is threaded.
use Rattle.std.proofs.Common.{◌≡◌, ◌∙◌, length, arith}
use Rattle.threads.proofs.Threading.{front-less, front-threaded}
use Rattle.threads.proofs.inner.thread.Goals as goal

pub loop-row-preserved : goal.loop-row-preserved
loop-row-preserved c =
    let i = c.loop-row.invariant in
    let s = c.in-Some.ensures.steps in
    let row : c.in-Some.row ≡ length c.next.new.self.iter.iter.rest.now = omega (arith, s.1.1, i.count) in
    record {
      threads = rw row (front-threaded _ _ _ _ s.1.0 i.front _ _ (omega (arith, c.requires.room)) (λ k l. omega (arith, c.requires.froms k l)) i.threads);
      front = front-less _ _ _ _ s.1.0 i.front;
      count = s.0 ∙ i.count;
    }
