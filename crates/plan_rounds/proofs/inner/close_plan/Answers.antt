-- `close_plan`: passes until one changes nothing.
use Rattle.std.proofs.Common.{ap, arith}
use Rattle.lists.specs.Words.{bit}
use Rattle.wrap_rules.proofs.Passes.{spread-start, spread-step, spread-falls}
use Rattle.plan_rounds.proofs.Rounds.{turning-end}
use Rattle.plan_rounds.proofs.inner.close_plan.Goals as goal

pub loop-more-init : goal.loop-more-init
loop-more-init c = record { kept = c.requires.kept; spread = spread-start _ c.args.plan.now c.requires.kept.marked.bits }

pub loop-more-smaller : goal.loop-more-smaller
loop-more-smaller c = omega (arith, spread-falls _ c.close_once-changed.ensures.passed, ap bit c.loop-more-test.true)

pub loop-more-preserved : goal.loop-more-preserved
loop-more-preserved c = record { kept = c.close_once-changed.ensures.kept; spread = spread-step _ c.loop-more.invariant.spread c.close_once-changed.ensures.passed }

pub returns : goal.returns
returns c = turning-end c.requires.kept.marked.bits (rw c.loop-more-test.false at c.loop-more.invariant)
