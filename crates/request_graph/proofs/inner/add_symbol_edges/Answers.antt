-- The edges to the chains, and then those from them.
-- Assumes nothing.
use Rattle.std.proofs.Common.{◌≡◌, length, ap, ◌∙◌}
use Rattle.tables.specs.Project.{Project}
use Rattle.current_columns.specs.AsProject.{project}
use Rattle.marks.proofs.Parts.{part_length}
use Rattle.request_edges.specs.inner.Edges.{numbered}
use Rattle.request_edges.proofs.Adding.{edges-kept-on, adds_on}
use Rattle.request_graph.proofs.inner.add_symbol_edges.Goals as goal

pub returns : goal.returns
unfolding project
returns c =
    let t = c.columns-columns.ensures in
    let ok = (rw (← t.same, ← c.columns.view_is) at t.accepted).sizes in
    let own : c.number.new.out ≡ numbered (length c.args.reached.now.owner) =
    c.number.ensures ∙ ap numbered (part_length 16384 _ ok.owner) ∙ ap (λ (p : Project). numbered (length p.owner)) (c.columns.view_is ∙ t.same ∙ c.reached.view_is)
    in
    record {
      kept = edges-kept-on c.add_chain_edges.ensures.kept c.add_read_edges.ensures.kept;
      adds = adds_on (rw (c.reached.view_is, own) at c.add_chain_edges.ensures.adds) (rw (c.reached.view_is, c.find_readers.ensures) at c.add_read_edges.ensures.adds);
    }
