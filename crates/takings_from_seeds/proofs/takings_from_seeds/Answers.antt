-- `takings_from_seeds`: a refusal changes nothing, seeds that fit are modules, and the run is shown.
-- Assumes nothing.
use Rattle.std.proofs.Common.{refl, sym, ◌∙◌, arith}
use Rattle.std.proofs.lemmas.Result.{err_from_is_err_and}
use Rattle.seeds.proofs.Fits.{fits_below}
use Rattle.takings_from_seeds.proofs.Promise.{project-refused, run-shown}
use Rattle.takings_from_seeds.proofs.takings_from_seeds.Goals as goal

pub returns-in_err-current : goal.returns-in_err-current
returns-in_err-current c = let p = err_from_is_err_and c.from_residual.result c.from_residual.ensures.1 in rw (p.1, p.2) (project-refused _ _ _ _ c.in_err-current.ensures)

pub list_takings-count-requires : goal.list_takings-count-requires
list_takings-count-requires c =
    let count = c.modules-n.ensures.count in
    let fits = rw count at (sym c.seeds_fit.ensures ∙ c.if-not-seeds_fit.false) in
    record {
      seeds = record { size = refl; inside = fits_below _ _ fits };
      list = omega (arith, count, c.if-list-n.false);
      lengths = omega (arith, count, c.if-lengths-n.false);
    }

pub returns : goal.returns
returns c =
    let read = c.in_ok-current.ensures in
    let count = c.modules-n.ensures.count in
    let n = rw read.project at count in
    let fits = rw n at (sym c.seeds_fit.ensures ∙ c.if-not-seeds_fit.false) in
    run-shown _ _ _ _ read.passed fits (omega (arith, n, c.if-list-n.false)) (omega (arith, n, c.if-lengths-n.false)) (rw read.project at c.list_takings-count.ensures)
