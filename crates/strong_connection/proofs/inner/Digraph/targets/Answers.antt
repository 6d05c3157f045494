-- `Digraph::targets`: the rows' targets are the values that stand there.
use Rattle.std.proofs.Common.{map, ap, ◌∙◌, arith}
use Rattle.tables.specs.Readings.{values_of}
use Rattle.strong_connection.specs.inner.Graph.{EdgeColumns, successors}
use Rattle.strong_connection.proofs.Rows.{targets-inside}
use Rattle.strong_connection.proofs.inner.Digraph.targets.Goals as goal

pub invariant_of-result : goal.invariant_of-result
invariant_of-result c = λ i l. omega (arith, c.rows.ensures.there i l, c.self.invariant.lengths)

pub returns-clause-list : goal.returns-clause-list
unfolding values_of
returns-clause-list c = ap (map _) c.rows.ensures.list ∙ ap (λ (g : EdgeColumns). successors g c.args.m) c.self.view_is

pub returns-clause-inside : goal.returns-clause-inside
unfolding values_of
returns-clause-inside c = rw (c.rows.ensures.list, ← c.self.view_is) (targets-inside c.self.invariant c.args.m)
