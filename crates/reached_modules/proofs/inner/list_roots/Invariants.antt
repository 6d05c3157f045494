-- The roots of the rows met are listed.
-- Assumes nothing.
use Rattle.std.proofs.Common.{◌≤◌, length}
use Rattle.reached_modules.proofs.Listing.{RootsBelow}
use Rattle.reached_modules.proofs.inner.list_roots.Given as goal

abbrev pub invariant-loop-m : goal.invariant-loop-m
invariant-loop-m l = record {
  few : l.count ≤ length l.yielded;
  roots : RootsBelow l.columns l.initial.list (length l.yielded) l.list l.count;
}
