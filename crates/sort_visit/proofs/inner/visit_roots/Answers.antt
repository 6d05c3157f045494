-- `sort_visit::inner::visit_roots` meets its contract. What the turns do is said in `Turns`.
-- Assumes nothing.
use Rattle.current_columns.specs.AsProject.{project}
use Rattle.sort_visit.proofs.Turns.{root-ready, root-visited}
use Rattle.sort_visit.proofs.inner.visit_roots.Goals as goal

pub visit-requires-in-loop-m : goal.visit-requires-in-loop-m
unfolding project
visit-requires-in-loop-m c =
    let inside = rw (← c.columns.view_is) at c.requires.2 in
    root-ready c.args.columns.now c.requires.0 c.requires.3 c.loop-m.invariant (inside c.loop-m.m-index c.loop-m-test.true)

pub loop-m-preserved : goal.loop-m-preserved
unfolding project
loop-m-preserved c =
    let before = rw (← c.columns.view_is) at c.loop-m.invariant in
    let next = rw (← c.columns.view_is) at c.visit-in-loop-m.ensures in
    rw (← c.columns.view_is) (root-visited (project c.columns.inside) c.columns.inside.entry.now c.loop-m.m-index c.loop-m-test.true before next)
