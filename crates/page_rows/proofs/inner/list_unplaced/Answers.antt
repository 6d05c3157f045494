-- `page_rows::inner::list_unplaced`: the marked members are those without a place.
-- Assumes nothing.
use Rattle.std.proofs.Common.{arith}
use Rattle.std.specs.Prelude.{ℕ, length, replicate}
use mathlib.Core.Path.{ap}
use lib.Seq.{length-take-le}
use Rattle.page_rows.proofs.Places.{keep-marked}
use Rattle.page_rows.proofs.inner.list_unplaced.Goals as goal

pub keep_marked-requires-clause-room : goal.keep_marked-requires-clause-room
keep_marked-requires-clause-room c =
    let n : ℕ = length c.args.places.now in
    let kept = keep-marked c.args.order.now n c.requires.members.rows c.args.places.now c.mark_unplaced.ensures (length-take-le n (replicate 4096 0) c.requires.few) in
    omega (arith, ap length kept)

pub returns : goal.returns
returns c =
    let n : ℕ = length c.args.places.now in
    let kept = keep-marked c.args.order.now n c.requires.members.rows c.args.places.now c.mark_unplaced.ensures (length-take-le n (replicate 4096 0) c.requires.few) in
    rw kept at c.keep_marked.ensures
