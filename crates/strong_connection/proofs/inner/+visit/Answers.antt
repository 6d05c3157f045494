-- `strong_connection::inner::visit`: m is marked, and then what its edges lead to, one target after the other.
-- Assumes nothing.
use Rattle.std.proofs.Common.{◌≡◌, ℕ, ◌<◌, List, length, get_or, set, ◌∙◌, arith, length-set}
use Rattle.lists.specs.Words.{zeros}
use Rattle.walk.proofs.Visits.{set-zeros, fresh-zero, fresh-not}
use Rattle.threads.proofs.Turns.{at-end, turn-below}
use Rattle.strong_connection.specs.inner.Graph.{successors}
use Rattle.strong_connection.proofs.Visiting.{marked-old, Visiting, visiting-next, visiting-grown, visiting-end}
use Rattle.strong_connection.proofs.inner.+visit.Goals as goal

-- what is known of the marks between two targets of a marked place
record Known (marks₀ marks : List ℕ) : Type 0 where
  long : length marks ≡ length marks₀
  fewer : zeros marks < zeros marks₀

known : (succ : ℕ → List ℕ) (m : ℕ) (marks₀ targets marks : List ℕ) → m < length marks₀ → get_or marks₀ m 0 ≡ 0 → Visiting succ m (set marks₀ m 1) targets marks → Known marks₀ marks
known succ m marks₀ targets marks below unmet g =
    let grown = visiting-grown succ m (set marks₀ m 1) targets marks g in
    let one_less = set-zeros marks₀ m (fresh-zero marks₀ m below unmet) in
    record { long = grown.len ∙ length-set marks₀ m 1; fewer = omega (arith, grown.fewer, one_less) }

pub returns-then-marks-at-ne0 : goal.returns-then-marks-at-ne0
returns-then-marks-at-ne0 t c = marked-old (successors c.args.graph.now) c.args.marks.now c.args.m (fresh-not c.args.marks.now c.args.m c.if-marks-at-ne0.true)

pub visit-requires : goal.visit-requires
visit-requires t c =
    let a = c.args in
    let k = known (successors a.graph.now) a.m a.marks.now c.loop-target.yielded c.loop-target.marks (omega (arith, c.requires.size, c.requires.place)) c.if-marks-at-ne0.false c.loop-target.invariant in
    let inside : c.in-Some.target < a.graph.now.places = turn-below _ c.loop-target.yielded _ _ c.loop-target.yielded_by c.in-Some.ensures.steps (rw c.into_iter-target-iterator.ensures.into_iter_gives c.targets-target-items.ensures.inside) in
    (omega (arith, k.fewer, c.decreases), (k.long ∙ c.requires.size, inside))

pub loop-target-preserved : goal.loop-target-preserved
loop-target-preserved t c = visiting-next (successors c.args.graph.now) c.args.m _ _ _ _ _ c.loop-target.invariant c.visit.ensures

pub returns : goal.returns
returns t c =
    let a = c.args in
    let all = at-end _ _ _ c.loop-target.yielded_by c.in-None.ensures.steps.0 ∙ c.into_iter-target-iterator.ensures.into_iter_gives ∙ c.targets-target-items.ensures.list in
    visiting-end (successors a.graph.now) a.m a.marks.now c.loop-target.marks (fresh-zero a.marks.now a.m (omega (arith, c.requires.size, c.requires.place)) c.if-marks-at-ne0.false) (rw all at c.loop-target.invariant)
