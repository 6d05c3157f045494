-- `suffix_rule::inner::extend_order` meets its contract: the suffix is planned, and where no eligible member stands before it all is planned then.
-- Assumes nothing.
use Rattle.std.proofs.Common.{refl}
use mathlib.Core.Logic.{inr}
use Rattle.suffix_rule.proofs.Extending.{whole-planned}
use Rattle.suffix_rule.proofs.inner.extend_order.Goals as goal

pub returns-then-whole : goal.returns-then-whole
returns-then-whole c =
    let a = c.args in
    let s = c.add_suffix-changed in
    record { added = s.ensures; settles = inr (refl, whole-planned a.order.now a.sensitive.now a.eligible.now c.requires.members (c.is_whole-whole.ensures c.if-whole.true) s.ensures) }
