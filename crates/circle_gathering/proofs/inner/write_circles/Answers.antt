-- `circle_gathering::inner::write_circles` meets its contract: the first search counts, and the second writes.
-- Assumes nothing.
use Rattle.std.proofs.Common.{◌≡◌, [], ◌∷◌, length, sym, ◌∙◌, arith}
use Rattle.circle_search.specs.Circles.{circles}
use Rattle.circle_visit.specs.Visit.{led_by}
use Rattle.circle_gathering.specs.Gathering.{joined}
use Rattle.circle_gathering.proofs.Writing.{none-there, counted-all, used-all, paths-short, lengths-short, both-fit}
use Rattle.circle_gathering.proofs.inner.write_circles.Goals as goal
use Rattle.circle_gathering.proofs.inner.write_circles.Goals.{then-paths-used-via-then-paths-used, then-paths-used-via-else-paths-used+then-lengths-count}

pub returns-then-count-eq0 : goal.returns-then-count-eq0
returns-then-count-eq0 c = none-there _ _ _ (sym (counted-all _ [] [] c.search_circles-found.ensures) ∙ c.if-count-eq0.true)

pub returns-then-paths-used : goal.returns-then-paths-used
returns-then-paths-used c =
    let p = c.args.columns.now in
    let found = circles (led_by c.args.starts.now c.args.led.now) c.args.n (p.runtime ∷ p.entry) in
    let count : c.search_circles-found.result.count ≡ length found = counted-all found [] [] c.search_circles-found.ensures in
    let used : c.search_circles-found.result.used ≡ length (joined found) = used-all found [] [] c.search_circles-found.ensures in
    elim c.then-paths-used.branch [
      | then-paths-used-via-then-paths-used w ↦ paths-short found _ _ (omega (arith, used, w.if-paths-used.true))
      | then-paths-used-via-else-paths-used+then-lengths-count w ↦ lengths-short found _ _ (omega (arith, count, w.if-lengths-count.true))
    ]

pub returns : goal.returns
returns c =
    let p = c.args.columns.now in
    let found = circles (led_by c.args.starts.now c.args.led.now) c.args.n (p.runtime ∷ p.entry) in
    let count : c.search_circles-found.result.count ≡ length found = counted-all found [] [] c.search_circles-found.ensures in
    let used : c.search_circles-found.result.used ≡ length (joined found) = used-all found [] [] c.search_circles-found.ensures in
    both-fit found _ _ (omega (arith, used, c.if-paths-used.false)) (omega (arith, count, c.if-lengths-count.false)) count c.search_circles.ensures
