-- `label_table`: the import rows of an accepted project are a graph over its chunks.
use Rattle.std.proofs.Common.{◌≡◌, length, sym, subst}
use Rattle.tables.specs.Readings.{chunks}
use Rattle.current_columns.specs.AsProject.{project}
use Rattle.strong_connection.specs.inner.Graph.{Graph}
use Rattle.chunk_cycles.proofs.OverTable.{accepted-fit, table-labelled}
use Rattle.chunk_cycles.proofs.inner.label_table.Goals as goal

pub label_chunks-requires : goal.label_chunks-requires
unfolding project
label_chunks-requires c =
    let p = project c.columns.inside in
    let n : length c.args.labels.now ≡ chunks p = rw (← c.columns-columns.ensures.same, ← c.columns.view_is) at c.requires.places in
    let fit = accepted-fit p (rw (← c.columns-columns.ensures.same, ← c.columns.view_is) at c.columns-columns.ensures.accepted) in
    record {
      few = rw n fit.few;
      rows = fit.rows;
      graph = subst (Graph p.import_chunk p.imports) (sym n) fit.graph;
    }

pub returns : goal.returns
unfolding project
returns c =
    let n = rw (← c.columns-columns.ensures.same, ← c.columns.view_is) at c.requires.places in
    rw (← c.columns-columns.ensures.same, ← c.columns.view_is) (table-labelled (project c.columns.inside) (length c.args.labels.now) n c.label_chunks.ensures)
