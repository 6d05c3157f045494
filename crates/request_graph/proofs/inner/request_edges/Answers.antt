-- The edges of (ii), then those of (iii), then those of (iv), over the columns of the table.
-- Assumes nothing.
use Rattle.std.proofs.Common.{◌≡◌, sym, ap, ◌∙◌}
use Rattle.tables.specs.Readings.{modules}
use Rattle.marks.proofs.Parts.{part_length}
use Rattle.rule_sets.proofs.Sizes.{sensitive-size, eligible-size}
use Rattle.request_edges.specs.inner.Edges.{numbered}
use Rattle.request_edges.proofs.Adding.{edges-kept-on}
use Rattle.request_graph.proofs.Edging.{requests-on}
use Rattle.request_graph.proofs.inner.request_edges.Goals as goal

pub number_chosen-requires-clause-first : goal.number_chosen-requires-clause-first
number_chosen-requires-clause-first c =
    let n = c.modules-n.ensures in
    sensitive-size _ c.labelled.inside.sets.sets.sensitive_set ∙ sym n.count ∙ sym (part_length 4096 _ n.few)

pub number_chosen-requires-clause-second : goal.number_chosen-requires-clause-second
number_chosen-requires-clause-second c =
    let n = c.modules-n.ensures in
    eligible-size _ c.labelled.inside.sets.sets.eligible_set ∙ sym n.count ∙ sym (part_length 4096 _ n.few)

pub returns : goal.returns
returns c =
    let n = rw c.labelled.view_is at c.modules-n.ensures in
    let sets = rw c.labelled.view_is at c.labelled.inside.sets.sets in
    let own : c.number.new.out ≡ numbered (modules c.args.labelled.now) = c.number.ensures ∙ ap numbered (part_length 4096 _ n.few ∙ n.count) in
    record {
      kept = edges-kept-on c.add_component_edges.ensures.kept (edges-kept-on c.add_import_edges.ensures.kept c.add_symbol_edges.ensures.kept);
      requests =
          requests-on _ (rw (own, c.number_chosen.ensures, sets.sensitive_set, sets.eligible_set) at c.add_component_edges.ensures.adds) (rw (c.labelled.view_is, own) at c.add_import_edges.ensures.adds) (rw c.requires.same at c.add_symbol_edges.ensures.adds);
    }
