-- The modules' edges, those of the records, and then those of the dependencies.
-- Assumes nothing.
use Rattle.std.proofs.Common.{arith}
use Rattle.current_columns.specs.AsProject.{project}
use Rattle.request_edges.proofs.Adding.{edges-kept-on, adds_on, adds-wide}
use Rattle.request_graph.proofs.Edging.{few-rows, import-edges}
use Rattle.request_graph.proofs.inner.add_import_edges.Goals as goal

pub returns : goal.returns
unfolding project
returns c =
    let t = c.columns-columns.ensures in
    let accepted = rw (← t.same, ← c.columns.view_is) at t.accepted in
    let size = rw (← t.same, ← c.columns.view_is) at c.requires.modules in
    let records = rw (← t.same, ← c.columns.view_is) at c.requires.imports in
    let ok = accepted.sizes in
    record {
      kept = edges-kept-on c.add.ensures.kept (edges-kept-on c.add-2.ensures.kept c.add-3.ensures.kept);
      adds =
          rw (← t.same, ← c.columns.view_is)
          (import-edges _ accepted records _
          (adds-wide (omega (arith, size, ok.normal, few-rows _ accepted records, records.lengths, ok.dependency, ok.dependency_module)) (adds_on c.add.ensures.adds (adds_on c.add-2.ensures.adds c.add-3.ensures.adds))));
    }
