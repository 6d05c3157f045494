-- `plan_judgement::inner::lacking_seed`: the eligible seeds are marked, and looked for in the plan.
-- Assumes nothing.
use Rattle.std.proofs.Common.{◌≡◌, ℕ, length, not, ◌&&◌, ap, ◌∙◌, arith}
use Rattle.lists.specs.Words.{has}
use Rattle.plan_conditions.specs.Conditions.{lowest}
use Rattle.rule_sets.proofs.Blank.{blank-none}
use Rattle.plan_judgement.proofs.Seeding.{lacking-seeds}
use Rattle.plan_judgement.proofs.inner.lacking_seed.Goals as goal

pub mark_seeds-requires : goal.mark_seeds-requires
mark_seeds-requires c =
    let n : length c.fill.new.slots ≡ length c.args.plan.now = omega arith in
    record { modules = omega arith; seeds = rw n c.requires.seeds }

pub returns : goal.returns
returns c =
    let a = c.args in
    let marks = c.mark_seeds.new.plan in
    let n : length marks ≡ length a.plan.now = omega arith in
    c.lowest_lacking.ensures
    ∙ ap (lowest (λ (m : ℕ). has marks m && not (has a.plan.now m))) n
    ∙ lacking-seeds a.seeds.now a.eligible.now a.plan.now c.fill.new.slots marks (length a.plan.now) (λ m h. blank-none (length a.copy.now) m (rw c.fill.ensures at h)) (omega arith) c.requires.seeds c.mark_seeds.ensures
