-- `worklist_plan::inner::run_sets`: the edges of the request graph are written and threaded, and the modules are taken over them.
-- Assumes nothing.
use Rattle.std.proofs.Common.{ℕ, sym, arith}
use mathlib.Core.Path.{subst}
use lib.ListN.{length-replicate}
use Rattle.request_edges.specs.inner.Edges.{Room}
use Rattle.worklist_plan.proofs.Graphing.{requests-from, edges-graph, graph-of}
use Rattle.worklist_plan.proofs.inner.run_sets.Goals as goal

pub request_edges-requires-clause-imports : goal.request_edges-requires-clause-imports
request_edges-requires-clause-imports c =
    let g = c.sets.invariant.edged in
    rw (c.to.ensures, c.from.ensures) record { lengths = sym g.graph.lengths; edges = g.edges }

pub request_edges-requires-clause-room : goal.request_edges-requires-clause-room
request_edges-requires-clause-room c = subst (Room 155648) (sym c.new-edges.ensures.empty) (omega (arith, length-replicate {A = ℕ} 155648 0))

pub new-graph-requires : goal.new-graph-requires
new-graph-requires c =
    let e = requests-from _ c.new-edges.ensures.empty c.request_edges.ensures.requests in
    rw (c.sources.ensures, c.targets.ensures.targets) record { graph = edges-graph _ _ _ e c.targets.ensures.same; few = omega (arith, e.few); room = omega (arith, e.few) }

pub run_linked-requires-clause-graph : goal.run_linked-requires-clause-graph
run_linked-requires-clause-graph c =
    let e = requests-from _ c.new-edges.ensures.empty c.request_edges.ensures.requests in
    rw (c.new-graph.ensures, c.sources.ensures, c.targets.ensures.targets, c.sets.invariant.root_sets) (graph-of _ _ _ e)
