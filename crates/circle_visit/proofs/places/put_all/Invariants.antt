-- Writing what is left gives the whole.
-- Assumes nothing.
use Rattle.std.proofs.Common.{◌≡◌, ◌+◌, drop}
use Rattle.std.proofs.lemmas.List.Edits.{sets}
use Rattle.circle_visit.proofs.places.put_all.Given as goal

abbrev pub invariant-loop-i : goal.invariant-loop-i
invariant-loop-i l = sets l.slots (l.at + l.i) (drop l.i l.source) ≡ sets l.fn.slots l.at l.source
