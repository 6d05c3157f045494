-- The sensitive ones among the members so far have their places, and `count` counts them.
-- Assumes nothing.
use Rattle.std.proofs.Common.{length}
use Rattle.lists.specs.Words.{has}
use Rattle.risk_of_orders.proofs.Places.{Placed}
use Rattle.risk_of_orders.proofs.inner.place_sensitive.Given as goal

abbrev pub invariant-loop-m : goal.invariant-loop-m
invariant-loop-m l = Placed (has l.sensitive) l.order (length l.initial.places) l.m-index l.count l.places
