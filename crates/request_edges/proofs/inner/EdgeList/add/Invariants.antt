-- The edges of the rows met are added.
-- Assumes nothing.
use Rattle.std.proofs.Common.{length}
use Rattle.request_edges.specs.inner.Lent.{edges_of, EdgesKept}
use Rattle.request_edges.proofs.Adding.{Adding}
use Rattle.request_edges.proofs.inner.EdgeList.add.Given as goal

abbrev pub invariant-loop-source : goal.invariant-loop-source
invariant-loop-source l = record {
  kept : EdgesKept l.fn.self l.self;
  adding : Adding l.sources l.a l.targets l.b (edges_of l.fn.self) (length l.yielded) (edges_of l.self);
}
