-- The members below i are listed.
-- Assumes nothing.
use Rattle.lines.proofs.Members.{Listing}
use Rattle.lines.proofs.rising.Given as goal

abbrev pub invariant-loop-i : goal.invariant-loop-i
invariant-loop-i l = Listing l.marks l.initial.out l.out l.n l.i
