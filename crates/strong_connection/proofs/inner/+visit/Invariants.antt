-- The measure is the number of places that are not met. Between the edges of a place, what they lead to so far is visited.
use Rattle.lists.specs.Words.{zeros}
use Rattle.strong_connection.specs.inner.Graph.{successors}
use Rattle.strong_connection.proofs.Visiting.{Visiting}
use Rattle.strong_connection.proofs.inner.+visit.Given as goal

abbrev pub decreases-visit : goal.decreases-visit
decreases-visit l = zeros l.marks.now

abbrev pub invariant-loop-target : goal.invariant-loop-target
invariant-loop-target l = Visiting (successors l.graph) l.m l.initial.marks l.yielded l.marks
