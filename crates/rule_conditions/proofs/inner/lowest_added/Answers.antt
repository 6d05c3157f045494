-- `rule_conditions::inner::lowest_added`: what a rule added to the copy is what the plan lacks.
-- Assumes nothing.
use Rattle.std.proofs.Common.{◌≡◌, length, take, ◌∙◌, sym, arith}
use lib.Seq.{take_all}
use Rattle.rule_conditions.proofs.Copies.{lacking-rule}
use Rattle.rule_conditions.proofs.inner.lowest_added.Goals as goal

pub returns : goal.returns
returns c = λ rule changed added.
    let n = c.modules-n.result in
    let size : length c.args.plan.now ≡ n = c.requires.plan.size ∙ sym c.modules-n.ensures.count in
    let plan : take n c.args.plan.now ≡ c.args.plan.now = take_all n c.args.plan.now (omega arith) in
    let copy : take n c.args.copy.now ≡ c.args.copy.now = take_all n c.args.copy.now (omega arith) in
    (rw (plan, copy) at c.lowest_lacking.ensures) ∙ lacking-rule c.args.current.now rule c.args.plan.now c.requires.plan.size added
