-- `read_sets`: the edges are threaded by their targets, and the candidates chosen in blank marks.
-- Assumes nothing.
use Rattle.std.proofs.Common.{arith, subst}
use mathlib.Core.Path.{refl}
use Rattle.strong_connection.specs.inner.Graph.{Graph}
use Rattle.walk.proofs.Visits.{bits-replicate}
use Rattle.strong_connection.proofs.Rows.{graph-back}
use Rattle.reached_modules.proofs.Few.{entries-few}
use Rattle.reached_modules.proofs.Choosing.{written_read}
use Rattle.rule_sets.proofs.Blank.{blank-none}
use Rattle.rule_sets.proofs.Edges.{front-lengths, front-edges, front-graph}
use Rattle.rule_sets.proofs.inner.read_sets.Goals as goal

pub list_roots-count-requires-clause-room : goal.list_roots-count-requires-clause-room
list_roots-count-requires-clause-room c =
    let accepted = c.modules-n.ensures.accepted in
    rw c.columns-columns.ensures.same (omega (arith, entries-few c.labelled.inside.sets.current.now accepted, accepted.sizes.normal))

pub choose_candidates-requires : goal.choose_candidates-requires
choose_candidates-requires c =
    let p = c.labelled.inside.sets.current.now in
    let edges = rw c.columns-columns.ensures.same at c.list_edges-edges.ensures in
    let accepted = c.modules-n.ensures.accepted in
    record {
      choosing = record {
        edges = front-edges p accepted _ _ _ edges (omega arith) (omega arith);
        lengths = front-lengths p accepted _ _ _ edges (omega arith) (omega arith);
        root = written_read (rw c.columns-columns.ensures.same at c.list_roots-count.ensures);
        eligible_set = c.labelled.inside.sets.sets.eligible_set;
        size = omega arith;
        bits = rw c.fill.ensures (bits-replicate _);
        none = rw c.fill.ensures (blank-none _);
      };
    }

pub new-imports-requires-clause-graph : goal.new-imports-requires-clause-graph
new-imports-requires-clause-graph c =
    let p = c.labelled.inside.sets.current.now in
    let edges = rw c.columns-columns.ensures.same at c.list_edges-edges.ensures in
    let accepted = c.modules-n.ensures.accepted in
    subst (Graph _ _) (omega arith) (graph-back (front-graph p accepted _ _ _ edges (omega arith) (omega arith)))

pub invariant_of-result-4 : goal.invariant_of-result-4
invariant_of-result-4 c =
    let p = c.labelled.inside.sets.current.now in
    let edges = rw c.columns-columns.ensures.same at c.list_edges-edges.ensures in
    let accepted = c.modules-n.ensures.accepted in
    record {
      accepted = accepted;
      root_sets = refl;
      reached_set = refl;
      edged = rw c.new-imports.ensures (record {
        edges = front-edges p accepted _ _ _ edges (omega arith) (omega arith);
        graph = graph-back (front-graph p accepted _ _ _ edges (omega arith) (omega arith));
        places = omega arith;
      });
    }
