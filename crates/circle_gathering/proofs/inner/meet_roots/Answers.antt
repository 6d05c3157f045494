-- `circle_gathering::inner::meet_roots`: there is room at each root.
-- Assumes nothing.
use Rattle.std.proofs.Common.{◌≡◌, ℕ, ◌+◌, [], ◌∷◌, ◌++◌, take, slice_index_or, arith, add-one, ap, ◌∙◌}
use lib.Seq.{take-suc, length-take-le}
use Rattle.walk.proofs.Visits.{zeros-le}
use Rattle.current_columns.specs.AsProject.{project}
use Rattle.circle_search.proofs.Searches.{met-then}
use Rattle.circle_visit.specs.Visit.{write, led_by}
use Rattle.circle_gathering.proofs.Roots.{root-next}
use Rattle.circle_gathering.proofs.inner.meet_roots.Goals as goal

pub meet-found-requires-clause-room : goal.meet-found-requires-clause-room
meet-found-requires-clause-room c =
    let z = zeros-le c.args.states.now in
    record { places = c.requires.room; lists = omega (arith, z); counts = omega (arith, z, c.requires.leads.few); short = omega arith }

pub meet-found-requires-in-loop-root-clause-room : goal.meet-found-requires-in-loop-root-clause-room
unfolding project
meet-found-requires-in-loop-root-clause-room c =
    let l = c.loop-root in
    let so_far = rw (← c.columns.view_is) at l.invariant in
    let few = rw (← c.columns.view_is) at c.requires.roots.2 in
    root-next c.args.states.now c.requires.leads c.args.stack.now c.args.paths.now c.args.lengths.now c.requires.room l.stack so_far (omega arith)
    (omega (arith, few, length-take-le l.root-index c.columns.inside.entry.now (omega arith)))

pub loop-root-preserved : goal.loop-root-preserved
unfolding project
loop-root-preserved c =
    let l = c.loop-root in
    let v = c.meet-found-in-loop-root in
    let entry = c.columns.inside.entry.now in
    let so_far = rw (← c.columns.view_is) at l.invariant in
    let e : take (l.root-index + 1) entry ≡ take l.root-index entry ++ (slice_index_or entry l.root-index 0 ∷ []) = ap (λ (i : ℕ). take i entry) (add-one l.root-index) ∙ take-suc entry l.root-index 0 c.loop-root-test.true in
    rw (← c.columns.view_is, e) (met-then (led_by c.args.starts.now c.args.led.now) write so_far v.ensures)
