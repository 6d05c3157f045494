-- The modules' edges, and then those of the labels.
-- Assumes nothing.
use Rattle.std.proofs.Common.{arith}
use Rattle.current_columns.specs.AsProject.{project}
use Rattle.request_edges.proofs.Adding.{edges-kept-on, adds_on, adds-wide}
use Rattle.request_graph.proofs.inner.add_component_edges.Goals as goal

pub returns : goal.returns
unfolding project
returns c =
    let t = c.columns-columns.ensures in
    let ok = (rw (← t.same, ← c.columns.view_is) at t.accepted).sizes in
    let s = rw (← t.same, ← c.columns.view_is) at c.labelled.invariant in
    let size = rw (← c.labelled.view_is, ← t.same, ← c.columns.view_is) at c.requires.modules in
    record {
      kept = edges-kept-on c.add_to_looked.ensures.kept c.add_looked.ensures.kept;
      adds =
          rw (← c.labelled.view_is, ← t.same, ← c.columns.view_is, ← s.label)
          (adds-wide (omega (arith, size, ok.normal, ok.member_chunk)) (adds_on c.add_to_looked.ensures.adds c.add_looked.ensures.adds));
    }
