-- The counterexamples, by computation.
-- Assumes nothing.
use mathlib.Core.Path.{refl}
use Rattle.marked_cases.specs.Cases.{AllHold}
use Rattle.premises.specs.Needed.{is_needed, needed_rules, EachRuleIsNeeded, needed_premises, EachPremiseIsNeeded, lost_by_imports}
use Rattle.marked_cases.proofs.Computing.{computing}

pub each_rule_is_needed : EachRuleIsNeeded
unfolding EachRuleIsNeeded is_needed needed_rules computing
each_rule_is_needed = refl

pub each_premise_is_needed : EachPremiseIsNeeded
unfolding EachPremiseIsNeeded needed_premises computing
each_premise_is_needed = (refl, refl)

pub lost_by_imports_hold : AllHold lost_by_imports
unfolding AllHold lost_by_imports computing
lost_by_imports_hold = refl
