-- `plan_from_seeds`: seeds that fit are modules.
use Rattle.std.proofs.Common.{◌≡◌, true, length, take, arith, ◌∙◌}
use lib.Seq.{length-take-le}
use Rattle.seeds.specs.Seeds.{seeds_fit}
use Rattle.seeds.proofs.Fits.{fits_below}
use Rattle.wrap_plan.proofs.plan_from_seeds.Goals as goal

pub plan_seeds-count-requires : goal.plan_seeds-count-requires
plan_seeds-count-requires c =
    let n = c.modules-n.result in
    let size : length (take n c.args.marks.now) ≡ n = length-take-le n c.args.marks.now (omega (arith, c.if-marks-n.false)) in
    let fits : seeds_fit n c.args.seeds.now ≡ true = grind arith in
    record { seeds = record { size = size ∙ c.modules-n.ensures.count; inside = rw size (fits_below n c.args.seeds.now fits) } }
