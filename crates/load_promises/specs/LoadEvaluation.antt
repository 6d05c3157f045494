-- The load theorem with ECMA-262's order, where its premises hold too.
-- Assumes nothing.
use Rattle.std.specs.Prelude.{◌≡◌, true, ℕ, ◌≤◌, None}
use Rattle.lists.specs.Words.{keep}
use Rattle.tables.specs.Project.{Project}
use Rattle.tables.specs.Readings.{modules, is_analysed}
use Rattle.tables.specs.Refusal.{refusal}
use Rattle.evaluation.specs.Premises.{evaluate_from, Premises}
use Rattle.entry_run.specs.Actual.{run_of}
use Rattle.sensitivity.specs.Marks.{sensitive}
use Rattle.marked_cases.specs.Listing.{listing}
use Rattle.load_promises.specs.Load.{planned_wraps, Plain}

-- the load with the whole plan's modules wrapped runs the sensitive modules in the order in which module evaluation executes them
unfoldable pub PlannedLoadKeepsTheLanguagesOrder : Type 0
PlannedLoadKeepsTheLanguagesOrder =
    (p : Project) (root k : ℕ) → refusal p ≡ None → Plain p → is_analysed p root ≡ true → Premises p root → modules p ≤ k
    → keep (sensitive p) (run_of p (planned_wraps p) root).listed ≡ keep (sensitive p) (evaluate_from p k root).executed

-- document 01's listing meets these premises too
unfoldable pub LanguagesOrderWitness : Type 0
LanguagesOrderWitness = Premises listing 1
