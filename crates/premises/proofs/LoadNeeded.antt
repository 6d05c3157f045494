-- The load theorem's witness and counterexamples, by computation.
-- Assumes nothing.
use mathlib.Core.Path.{refl}
use Rattle.load_promises.specs.Load.{only_eligible, no_require, imports_are_dependencies, members_belong}
use Rattle.premises.specs.LoadNeeded.{PlainWitness, load_cases, EachPlainPremiseIsNeeded, ImportRuleIsNeededForTheLoad}
use Rattle.marked_cases.proofs.Computing.{computing}

pub plain_witness : PlainWitness
unfolding computing only_eligible no_require imports_are_dependencies members_belong
plain_witness = record {
  accepted = refl;
  plain = record { eligibles = refl; requires = refl; dependencies = refl; members = refl };
  analysed = refl;
  plan = refl;
  loaded = refl;
  expected = refl;
}

pub each_plain_premise_is_needed : EachPlainPremiseIsNeeded
unfolding EachPlainPremiseIsNeeded load_cases computing only_eligible no_require imports_are_dependencies members_belong
each_plain_premise_is_needed = (refl, refl)

pub import_rule_is_needed_for_the_load : ImportRuleIsNeededForTheLoad
unfolding computing only_eligible no_require imports_are_dependencies members_belong
import_rule_is_needed_for_the_load = record {
  accepted = refl;
  plain = record { eligibles = refl; requires = refl; dependencies = refl; members = refl };
  analysed = refl;
  seeds = refl;
  closed = refl;
  loaded = refl;
  expected = refl;
}
