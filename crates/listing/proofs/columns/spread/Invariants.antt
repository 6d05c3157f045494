use Rattle.listing.proofs.Cuts.{Cutting}
use Rattle.listing.proofs.columns.spread.Given as goal

abbrev pub invariant-loop-l : goal.invariant-loop-l
invariant-loop-l l = Cutting l.rows l.ends l.initial.columns l.initial.bounds l.columns l.bounds l.l l.first l.to l.j
