-- The first that is lacking is the lowest.
-- Assumes nothing.
use Rattle.std.proofs.Common.{ℕ, not, ◌&&◌, length, get_or, ap, arith}
use mathlib.Core.Path.{sym}
use Rattle.lists.specs.Words.{has}
use Rattle.lists.proofs.Laws.{and-join, mark-in, mark-out}
use Rattle.plan_conditions.proofs.Lowest.{lowest-is, lowest-none}
use Rattle.plan_conditions.proofs.inner.lowest_lacking.Goals as goal

pub returns-then-held-m-eq0 : goal.returns-then-held-m-eq0
returns-then-held-m-eq0 c =
    let asked = c.args.asked.now in
    let held = c.args.held.now in
    let m = c.loop-m.m in
    sym (lowest-is (λ (k : ℕ). has asked k && not (has held k)) (length asked) m (omega arith)
    (and-join (has asked m) (not (has held m)) (mark-in (get_or asked m 0) c.if-mark-ne0.true) (ap not (mark-out (get_or held m 0) c.if-held-m-eq0.true)))
    c.loop-m.invariant)

pub returns : goal.returns
returns c = sym (lowest-none _ (length c.args.asked.now) (λ k l. c.loop-m.invariant k (omega arith)))
