-- `sort_chunks`: chunk by chunk, a chunk's members are sorted and the other rows stay.
use Rattle.std.proofs.Common.{◌≡◌, arith}
use Rattle.arrangement.proofs.Chunks.{arranging-start, arranging-next, arranging-end}
use Rattle.arrangement.proofs.inner.sort_chunks.Goals as goal

pub loop-c-init : goal.loop-c-init
loop-c-init c = arranging-start _ _ _

pub loop-c-preserved : goal.loop-c-preserved
loop-c-preserved c = arranging-next _ _ _ _ c.requires _ _ _ c.loop-c.invariant c.first_row-end.result c.first_row-end.ensures c.sort.new.values c.sort.ensures

pub returns : goal.returns
returns c =
    let last : c.loop-c.c ≡ c.args.chunks = omega arith in
    arranging-end _ _ _ c.args.chunks c.requires c.loop-c.members c.loop-c.start (rw last at c.loop-c.invariant)
