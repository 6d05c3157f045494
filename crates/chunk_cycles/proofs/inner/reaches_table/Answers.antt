-- `reaches_table`: the import rows of an accepted project are a graph over its chunks.
use Rattle.std.proofs.Common.{sym, subst}
use Rattle.current_columns.specs.AsProject.{project}
use Rattle.strong_connection.specs.inner.Graph.{Graph}
use Rattle.chunk_cycles.proofs.OverTable.{accepted-fit, reaching-length, reaching-labels, reaching-said}
use Rattle.chunk_cycles.proofs.inner.reaches_table.Goals as goal

pub reaches_cyclic-requires : goal.reaches_cyclic-requires
unfolding project
reaches_cyclic-requires c =
    let p = project c.columns.inside in
    let q = rw (← c.columns-columns.ensures.same, ← c.columns.view_is) at c.requires.labels in
    let n = reaching-length p c.args.labels.now c.args.chunk q in
    let fit = accepted-fit p (rw (← c.columns-columns.ensures.same, ← c.columns.view_is) at c.columns-columns.ensures.accepted) in
    record {
      few = rw n fit.few;
      rows = fit.rows;
      graph = subst (Graph p.import_chunk p.imports) (sym n) fit.graph;
      labels = reaching-labels p c.args.labels.now c.args.chunk q;
      chunk = rw n q.there;
    }

pub returns : goal.returns
unfolding project
returns c =
    let q = rw (← c.columns-columns.ensures.same, ← c.columns.view_is) at c.requires.labels in
    rw (← c.columns-columns.ensures.same, ← c.columns.view_is) (reaching-said (project c.columns.inside) c.args.labels.now c.args.chunk q c.reaches_cyclic.result c.reaches_cyclic.ensures)
