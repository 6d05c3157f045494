-- `prepare_wrapped`: each column is written at the front of its array.
-- Assumes nothing.
use Rattle.std.proofs.Common.{length, ap, ◌∙◌, arith}
use lib.Seq.{length-take-le}
use Rattle.current_columns.specs.AsProject.{project}
use Rattle.triggers.specs.inner.Columns.{ways, triggers}
use Rattle.load_order.proofs.OverTable.{imports-fit}
use Rattle.load_order.proofs.Arranging.{arranged-loads}
use Rattle.visit_columns.proofs.inner.prepare_wrapped.Goals as goal

pub returns : goal.returns
unfolding project
returns c =
    let p = project c.columns.inside in
    let wraps = c.args.wraps.now in
    let a = rw (← c.columns-columns.ensures.same, ← c.columns.view_is) at c.columns-columns.ensures.accepted in
    let n = rw (← c.columns-columns.ensures.same, ← c.columns.view_is) at c.modules-n.ensures.count in
    let chunks = rw (← c.columns-columns.ensures.same, ← c.columns.view_is) at c.chunks-chunks.ensures.count in
    let loads = rw (← c.columns.view_is) at c.arrange_table.ensures in
    let way = rw (← c.columns.view_is) at c.write_ways.ensures in
    let trigger = rw (← c.columns.view_is) at c.write_triggers.ensures in
    rw (← c.columns-columns.ensures.same, ← c.columns.view_is) (record {
      way = way ∙ ap (ways p.normal p.included wraps) (length-take-le c.modules-n.result c.args.space.now.ways (omega arith) ∙ n);
      starts = c.first_rows.ensures;
      start_places = omega (arith, c.first_rows.auto.starts, n);
      trigger = trigger ∙ ap (triggers p.normal p.included wraps p.record_kind p.record_target) (length-take-le (length p.record_module) c.args.space.now.triggers (omega arith));
      member_starts = c.first_rows-2.ensures;
      member_places = omega (arith, c.first_rows-2.auto.starts, chunks);
      load_starts = c.first_rows-3.ensures;
      load_places = omega (arith, c.first_rows-3.auto.starts, chunks);
      loading = arranged-loads p.order p.import_chunk p.imports (imports-fit p a) _ loads.size loads.same;
      same = loads.same;
    })
