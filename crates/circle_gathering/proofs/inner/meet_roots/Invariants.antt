-- Root by root.
-- Assumes nothing.
use Rattle.std.proofs.Common.{◌∷◌, take}
use Rattle.circle_search.specs.inner.Search.{Searches}
use Rattle.circle_visit.specs.Visit.{write, led_by, held}
use Rattle.circle_gathering.proofs.inner.meet_roots.Given as goal

abbrev pub invariant-loop-root : goal.invariant-loop-root
invariant-loop-root l =
    Searches (led_by l.starts l.led) write (held l.fn.states l.fn.stack 0 l.fn.paths l.fn.lengths 0 0) (l.columns.runtime ∷ take l.root-index l.columns.entry)
    (held l.states l.stack 0 l.paths l.lengths l.found.count l.found.used)
