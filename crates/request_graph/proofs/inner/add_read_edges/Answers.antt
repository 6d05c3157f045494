-- The edges of the references' symbols and of their canonicals, and then those of the depended ones.
-- Assumes nothing.
use Rattle.std.proofs.Common.{arith}
use Rattle.current_columns.specs.AsProject.{project}
use Rattle.request_edges.proofs.Adding.{edges-kept-on, adds_on, adds-wide}
use Rattle.request_graph.proofs.inner.add_read_edges.Goals as goal

pub returns : goal.returns
unfolding project
returns c =
    let t = c.columns-columns.ensures in
    let ok = (rw (← t.same, ← c.columns.view_is) at t.accepted).sizes in
    record {
      kept = edges-kept-on c.add.ensures.kept (edges-kept-on c.add_from_looked.ensures.kept (edges-kept-on c.add_to_looked.ensures.kept c.add_looked.ensures.kept));
      adds =
          rw (← t.same, ← c.columns.view_is)
          (adds-wide (omega (arith, ok.reference_symbol, ok.reference_statement, ok.depended, ok.depended_reference))
          (adds_on c.add.ensures.adds (adds_on c.add_from_looked.ensures.adds (adds_on c.add_to_looked.ensures.adds c.add_looked.ensures.adds))));
    }
