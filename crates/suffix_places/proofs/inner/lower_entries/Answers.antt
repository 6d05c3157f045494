-- `lower_entries`: a settled root is passed over, and another's order is lowered.
-- Assumes nothing.
use Rattle.std.proofs.Common.{get_or, arith}
use Rattle.lists.proofs.Laws.{mark-in}
use Rattle.suffix_places.specs.inner.Places.{Small}
use Rattle.suffix_places.proofs.Lowering.{lowest_start, lowest-skip, lowest-open, lowest-settled}
use Rattle.suffix_places.proofs.inner.lower_entries.Goals as goal

pub loop-k-init : goal.loop-k-init
loop-k-init c = lowest_start _ _ _ _ _ _ _ c.requires.size c.requires.settled

pub loop-k-preserved-then-settled-k-ne0 : goal.loop-k-preserved-then-settled-k-ne0
loop-k-preserved-then-settled-k-ne0 c =
    lowest-skip _ _ _ _ _ _ _ _ _ c.loop-k.invariant (omega arith) (mark-in (get_or c.loop-k.settled c.loop-k.k 0) c.if-settled-k-ne0.true)

pub loop-k-preserved-then-not-lower_entry : goal.loop-k-preserved-then-not-lower_entry
loop-k-preserved-then-not-lower_entry c = lowest-open _ _ _ _ _ _ _ _ _ c.loop-k.invariant (omega arith) _ c.lower_entry.ensures.lowered

pub loop-k-preserved : goal.loop-k-preserved
loop-k-preserved c = lowest-settled _ _ _ _ _ _ _ _ _ c.loop-k.invariant (omega arith) _ c.lower_entry.ensures.lowered (c.lower_entry.ensures.all c.if-not-lower_entry.false)

pub lower_entry-requires-clause-small : goal.lower_entry-requires-clause-small
unfolding Small
lower_entry-requires-clause-small c m = omega (arith, c.loop-k.invariant.low m, c.requires.small m)
