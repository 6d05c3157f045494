-- `pass_suffixes`: nothing is asked where every entry is settled or no sensitive candidate is open, else the entries are extended.
-- Assumes nothing.
use Rattle.std.proofs.Common.{ℕ, false, List, sym, ◌∙◌}
use Rattle.lists.specs.Words.{has}
use Rattle.walk.specs.Close.{Closed, Bits}
use Rattle.tables.specs.Project.{Project}
use Rattle.sensitivity.specs.Marks.{sensitive_marks}
use Rattle.eligibility.specs.Eligible.{eligible_marks}
use Rattle.wrap_rules.specs.Rules.{suffix_asks}
use Rattle.wrap_rules.specs.Plan.{roots}
use Rattle.wrap_rules.specs.inner.Passes.{candidate_marks}
use Rattle.wrap_rules.proofs.Passes.{passed-closed}
use Rattle.rule_sets.proofs.Sizes.{sensitive-size, candidate-size}
use Rattle.suffix_rule.specs.inner.Suffix.{sensitive_orders, Settling, SuffixPassed}
use Rattle.suffix_rule.proofs.Extending.{none_open, all_settled}
use Rattle.suffix_rule.proofs.OfProject.{suffix-pass, orders-ready}
use Rattle.suffix_rule.proofs.inner.pass_suffixes.Goals as goal

-- a pass that adds nothing
quiet : (p : Project) (settled plan : List ℕ) → Settling p settled plan → Bits plan → Closed (suffix_asks (has (eligible_marks p)) (sensitive_orders p (sensitive_marks p) (roots p))) plan → SuffixPassed p plan settled plan false
quiet p settled plan s bits c = record { settles = s.settles; passed = suffix-pass p (passed-closed _ plan bits c) }

pub returns-then-count_marked-settled : goal.returns-then-count_marked-settled
returns-then-count_marked-settled c =
    let p = c.args.rooted.now in
    let s = c.requires.settled in
    quiet p _ _ s c.requires.plan.bits
    (all_settled p (roots p) (sensitive_marks p) (eligible_marks p) c.args.plan.now c.args.settled.now s.size s.settles (sym c.count_marked.ensures ∙ c.if-count_marked-settled.true))

pub any_open-requires-clause-one : goal.any_open-requires-clause-one
any_open-requires-clause-one c = sensitive-size _ (rw c.rooted.view_is at c.rooted.inside.sets.sets).sensitive_set ∙ sym c.requires.plan.size

pub any_open-requires-clause-two : goal.any_open-requires-clause-two
any_open-requires-clause-two c = candidate-size _ (rw (c.reached.view_is, c.requires.same) at c.reached.invariant) ∙ sym c.requires.plan.size

pub returns-then-not-any_open : goal.returns-then-not-any_open
returns-then-not-any_open c =
    let p = c.args.rooted.now in
    let s = rw c.rooted.view_is at c.rooted.invariant in
    let sets = rw c.rooted.view_is at c.rooted.inside.sets.sets in
    let r = rw (c.reached.view_is, c.requires.same) at c.reached.invariant in
    quiet p _ _ c.requires.settled c.requires.plan.bits
    (none_open p (roots p) (sensitive_marks p) (eligible_marks p) c.args.plan.now (candidate_marks p) (orders-ready p s.accepted)
    (rw (sets.sensitive_set, r.candidate_set) at (c.any_open.ensures c.if-not-any_open.true)))
