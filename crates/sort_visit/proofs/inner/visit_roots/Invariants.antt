-- The visits so far are of the runtime and of the entries before this one.
-- Assumes nothing.
use Rattle.std.proofs.Common.{◌∷◌, take}
use Rattle.sort_visit.proofs.Turns.{at, none, Visited}
use Rattle.sort_visit.proofs.inner.visit_roots.Given as goal

abbrev pub invariant-loop-m : goal.invariant-loop-m
invariant-loop-m l =
    let f = l.fn in
    Visited f.columns (at none f.marks f.numbers f.sorted) (f.columns.runtime ∷ take l.m-index f.columns.entry) (at l.counters l.marks l.numbers l.sorted)
