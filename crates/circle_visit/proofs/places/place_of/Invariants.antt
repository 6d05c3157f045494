-- What is left of the list has the same part from m on.
-- Assumes nothing.
use Rattle.std.proofs.Common.{◌≡◌, drop}
use Rattle.circle_search.specs.Circles.{from}
use Rattle.circle_visit.proofs.places.place_of.Given as goal

abbrev pub invariant-loop-i : goal.invariant-loop-i
invariant-loop-i l = from l.m (drop l.i l.begun) ≡ from l.m l.begun
