-- `component_labels::inner::label_rows`: row by row.
-- Assumes nothing.
use Rattle.std.proofs.Common.{ℕ, refl, sym, ap, ◌∙◌, arith}
use Rattle.std.proofs.lemmas.Slice.Zip.{zip_end}
use Rattle.lists.proofs.Zips.{turn_at}
use Rattle.strong_connection.specs.inner.Graph.{successors}
use Rattle.component_labels.specs.inner.Labelling.{component_labelled}
use Rattle.component_labels.proofs.Components.{labelled_step, labelled-end}
use Rattle.component_labels.proofs.inner.label_rows.Goals as goal

pub loop-source-preserved : goal.loop-source-preserved
loop-source-preserved c =
    let g = c.args.graph.now in
    let l = c.loop-source in
    let t = turn_at g.from g.to l.yielded c.into_iter-source-iterator.result l.source-iterator c.next.new.self (cc c.from.ensures) (cc (c.zip-source-items.ensures.second.0, c.to.ensures)) l.yielded_by (c.in-Some.field-0-0, c.in-Some.field-0-1) c.in-Some.ensures.steps in
    rw t.more (labelled_step l.invariant c.label_component.new.labels t.first_in (c.label_component.ensures ∙ ap (λ (m : ℕ). component_labelled g.places (successors g) m l.labels) (sym t.second)))

pub returns : goal.returns
returns c =
    let g = c.args.graph.now in
    let l = c.loop-source in
    let e = zip_end g.from g.to l.yielded c.into_iter-source-iterator.result l.source-iterator c.next.new.self _ (cc c.from.ensures) (cc (c.zip-source-items.ensures.second.0, c.to.ensures)) l.yielded_by refl c.in-None.ensures.steps in
    labelled-end l.invariant (omega (arith, l.invariant.graph.lengths))
