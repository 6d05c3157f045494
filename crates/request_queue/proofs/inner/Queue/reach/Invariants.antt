-- The members before k are followed.
use Rattle.std.proofs.Common.{◌-◌, length}
use Rattle.strong_connection.specs.inner.Graph.{successors}
use Rattle.request_queue.specs.inner.Lent.{listing, Kept}
use Rattle.request_queue.proofs.Reaching.{Reaching}
use Rattle.request_queue.proofs.inner.Queue.reach.Given as goal

abbrev pub invariant-loop-k : goal.invariant-loop-k
invariant-loop-k l = record {
  kept : Kept l.fn.self l.self;
  reaching : Reaching (successors l.graph) l.x (listing l.fn.self) (listing l.self) l.k;
}

abbrev pub decreases-loop-k : goal.decreases-loop-k
decreases-loop-k l = length (listing l.self).marks - l.k
