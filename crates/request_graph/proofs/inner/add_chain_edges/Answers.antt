-- The symbols' own edges, and then those of the links.
-- Assumes nothing.
use Rattle.std.proofs.Common.{arith}
use Rattle.current_columns.specs.AsProject.{project}
use Rattle.request_edges.proofs.Adding.{edges-kept-on, adds_on, adds-wide}
use Rattle.request_graph.proofs.inner.add_chain_edges.Goals as goal

pub returns : goal.returns
unfolding project
returns c =
    let t = c.columns-columns.ensures in
    let ok = (rw (← t.same, ← c.columns.view_is) at t.accepted).sizes in
    record {
      kept = edges-kept-on c.add.ensures.kept c.add_from_looked.ensures.kept;
      adds = rw (← t.same, ← c.columns.view_is) (adds-wide (omega (arith, ok.owner, ok.chain_link, ok.chain_symbol)) (adds_on c.add.ensures.adds c.add_from_looked.ensures.adds));
    }
