use Rattle.std.proofs.Common.{ℕ, true, length}
use Rattle.risk_of_orders.proofs.Places.{Placed}
use Rattle.page_rows.proofs.inner.place_members.Given as goal

abbrev pub invariant-loop-k : goal.invariant-loop-k
invariant-loop-k l = Placed (λ (m : ℕ). true) l.order (length l.fn.places) l.k l.k l.places
