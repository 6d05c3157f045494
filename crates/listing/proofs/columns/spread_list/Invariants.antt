use Rattle.listing.proofs.Stripes.{Spreading}
use Rattle.listing.proofs.columns.spread_list.Given as goal

abbrev pub invariant-loop-k : goal.invariant-loop-k
invariant-loop-k l = Spreading l.rows l.fn.columns l.fn.bounds l.first l.w l.n l.to l.j l.columns l.bounds l.k l.at
