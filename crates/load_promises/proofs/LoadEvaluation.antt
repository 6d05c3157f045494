-- The load theorem with ECMA-262's order, inhabited.
-- Assumes nothing.
use mathlib.Core.Path.{◌≡◌, refl, sym, ap, ◌∙◌}
use mathlib.Core.Bool.{Bool, true, cond}
use mathlib.Core.List.{[], ◌∷◌}
use Prim.Native.Nat.{ℕ}
use Rattle.lists.specs.Words.{keep}
use Rattle.walk.specs.Walk.{everywhere, post_order}
use Rattle.walk.specs.Reach.{here}
use Rattle.tables.specs.Project.{Project}
use Rattle.tables.specs.Readings.{modules, is_normal, flagged, rows_of}
use Rattle.expected_visit.specs.Expected.{expected}
use Rattle.expected_visit.specs.OfProject.{expected_of}
use Rattle.evaluation.specs.Premises.{requested_of}
use Rattle.evaluation.proofs.Witness.{meets-premises}
use Rattle.evaluation.proofs.Expected.{evaluation-gives-the-expected-order}
use Rattle.sensitivity.specs.Marks.{sensitive}
use Rattle.wrap_rules.specs.Plan.{expected_sensitive_of}
use Rattle.marked_cases.specs.Listing.{listing}
use Rattle.load_promises.specs.Load.{normal_imports, PlannedLoadKeepsTheOrder}
use Rattle.load_promises.specs.LoadEvaluation.{PlannedLoadKeepsTheLanguagesOrder, LanguagesOrderWitness}
use Rattle.load_promises.proofs.Load.{planned_load_keeps_the_order}

-- a normal root's expected order
pub expected-normal : (p : Project) (root : ℕ) → is_normal p.normal root ≡ true → expected_of p root ≡ keep (flagged p.included) (post_order (normal_imports p) everywhere (modules p) (root ∷ []))
unfolding expected_of expected
expected-normal p root e = ap (λ (b : Bool). cond b (keep (flagged p.included) (post_order (normal_imports p) everywhere (modules p) (root ∷ []))) []) e

pub planned_load_keeps_the_languages_order : PlannedLoadKeepsTheLanguagesOrder
unfolding PlannedLoadKeepsTheLanguagesOrder PlannedLoadKeepsTheOrder expected_sensitive_of
planned_load_keeps_the_languages_order p root k ok plain an premises enough =
    planned_load_keeps_the_order p root ok plain an
    ∙ ap (keep (sensitive p)) (expected-normal p root (premises.normal root (here refl)) ∙ sym (evaluation-gives-the-expected-order p root premises k enough).executes)

pub languages_order_witness : LanguagesOrderWitness
unfolding LanguagesOrderWitness requested_of rows_of
languages_order_witness = meets-premises listing 1 (1 ∷ 2 ∷ 3 ∷ []) refl refl refl
