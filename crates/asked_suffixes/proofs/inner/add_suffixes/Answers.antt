-- `add_suffixes`: what stands in the suffixes and is eligible is what the rule asks for.
-- Assumes nothing.
use Rattle.std.proofs.Common.{◌≡◌, ℕ, length, take, sym, ap, ◌∙◌, arith}
use lib.ListN.{replicate}
use mathlib.Core.Logic.{⊎_elim}
use Rattle.eligibility.specs.Eligible.{eligible_marks}
use Rattle.marks.specs.Steps.{InAll}
use Rattle.marks.proofs.Parts.{part_none, part_length}
use Rattle.marks.proofs.Steps.{added-cong}
use Rattle.rule_sets.proofs.Sizes.{eligible-size}
use Rattle.asked_suffixes.proofs.Marking.{asks-some, some-asks}
use Rattle.asked_suffixes.proofs.inner.add_suffixes.Goals as goal

pub add-requires-clause-two : goal.add-requires-clause-two
add-requires-clause-two c = eligible-size _ (rw c.rooted.view_is at c.rooted.inside.sets.sets).eligible_set ∙ sym c.requires.plan.size ∙ ap length (sym c.requires.copy)

pub add-requires-clause-three : goal.add-requires-clause-three
add-requires-clause-three c = eligible-size _ (rw c.rooted.view_is at c.rooted.inside.sets.sets).eligible_set ∙ sym c.requires.plan.size ∙ ap length (sym c.requires.copy)

pub returns : goal.returns
returns c =
    let a = c.args in
    let p = a.rooted.now in
    let n = c.modules.result in
    let sets = rw c.rooted.view_is at c.rooted.inside.sets.sets in
    let size : length {A = ℕ} (take n (replicate 4096 0)) ≡ length a.copy.now = part_length 4096 n c.modules.ensures.few ∙ (rw c.rooted.view_is at c.modules.ensures.count) ∙ sym c.requires.plan.size ∙ ap length (sym c.requires.copy) in
    let marked = c.mark_entries.ensures in
    let added =
    added-cong (InAll c.mark_entries.new.asked (eligible_marks p) (eligible_marks p)) _
    (λ m l h. let i = asks-some p a.plan.now m h in (marked.all m (omega (arith, l, size)) i.0, i.1, i.1))
    (λ m h. some-asks p a.plan.now m (⊎_elim (λ q. absurd (part_none 4096 n m q)) (λ q. q) (marked.only m h.0)) h.1)
    (rw sets.eligible_set at c.add.ensures)
    in
    rw c.requires.copy at added

pub mark_entries-requires-clause-size : goal.mark_entries-requires-clause-size
mark_entries-requires-clause-size c = part_length 4096 c.modules.result c.modules.ensures.few ∙ (rw c.rooted.view_is at c.modules.ensures.count)
