-- What doesn't read the seed rows is the same with others, and what doesn't read the import rows is the same with others.
-- Assumes nothing.
use mathlib.Core.Path.{◌≡◌, refl}
use mathlib.Core.List.{List}
use Prim.Native.Nat.{ℕ}
use Rattle.tables.specs.Project.{Project}
use Rattle.tables.specs.Readings.{analysed, entry_chunk_of}
use Rattle.chunk_cycles.specs.Cycles.{labels_of, reaches_cycle_of}
use Rattle.expected_visit.specs.OfProject.{expected_of}
use Rattle.entry_run.specs.Actual.{run_of, actual_of, hosts_of}
use Rattle.sensitivity.specs.Marks.{uses_wrapped, ground_of, sensitive}
use Rattle.eligibility.specs.Eligible.{eligible}
use Rattle.wrap_rules.specs.Plan.{expected_sensitive_of, Rule, suffix_rule, component_rule, import_rule, read_rule, roots, reached, asks, asked, start, plan_from, orders_of}
use Rattle.at_risk.specs.Promise.{risk_of_entry}
use Rattle.wrap_rules.specs.Rules.{component_asks, leads, import_asks, symbol_touches, reference_touches, read_asks}
use Rattle.wrap_plan.specs.Promise.{plan_of}
use Rattle.promises.specs.Changes.{with_seed, with_imports}

module _ (p : Project) (rows : List ℕ) where
  pub seed-plan : (seeds : List ℕ) → plan_of (with_seed p rows) seeds ≡ plan_of p seeds
  unfolding plan_of plan_from asked start eligible sensitive ground_of uses_wrapped reached component_asks import_asks read_asks leads reference_touches symbol_touches orders_of labels_of expected_sensitive_of expected_of analysed
  seed-plan seeds = refl

  pub seed-risk : (root : ℕ) → risk_of_entry (with_seed p rows) root ≡ risk_of_entry p root
  unfolding risk_of_entry sensitive ground_of uses_wrapped eligible expected_of actual_of hosts_of run_of entry_chunk_of reaches_cycle_of
  seed-risk root = refl

  pub seed-roots : roots (with_seed p rows) ≡ roots p
  unfolding analysed
  seed-roots = refl

module _ (p : Project) (froms tos : List ℕ) where
  pub imports-orders : orders_of (with_imports p froms tos) ≡ orders_of p
  unfolding orders_of analysed expected_sensitive_of sensitive ground_of uses_wrapped expected_of
  imports-orders = refl

  pub imports-eligible : (m : ℕ) → eligible (with_imports p froms tos) m ≡ eligible p m
  unfolding eligible
  imports-eligible m = refl

  pub imports-asks : (orders : List (List ℕ)) (labels : List ℕ) (rule : Rule) (S : List ℕ) (m : ℕ) → asks orders labels (with_imports p froms tos) rule S m ≡ asks orders labels p rule S m
  unfolding eligible sensitive ground_of uses_wrapped reached analysed component_asks import_asks read_asks leads reference_touches symbol_touches
  imports-asks orders labels suffix_rule S m = refl
  imports-asks orders labels component_rule S m = refl
  imports-asks orders labels import_rule S m = refl
  imports-asks orders labels read_rule S m = refl
