-- `add_suffix`: the suffix is marked, and its eligible members are added.
-- Assumes nothing.
use Rattle.std.proofs.Common.{length, arith}
use mathlib.Core.Logic.{⊎_elim}
use Rattle.marks.specs.Steps.{InAll}
use Rattle.marks.proofs.Parts.{part_none, part_length}
use Rattle.marks.proofs.Steps.{added-cong}
use Rattle.suffix_rule.proofs.inner.add_suffix.Goals as goal

pub returns : goal.returns
returns c =
    let a = c.args in
    let n = length a.plan.now in
    let o = c.mark_suffix.ensures in
    added-cong (InAll c.mark_suffix.new.marks a.eligible.now a.eligible.now) _
    (λ m l h. (o.all m (omega (arith, part_length 4096 n c.requires.few)) h.0, h.1, h.1))
    (λ m h. (⊎_elim (λ q. absurd (part_none 4096 n m q)) (λ q. q) (o.only m h.0), h.1))
    c.add.ensures
