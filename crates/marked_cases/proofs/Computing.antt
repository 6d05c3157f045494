-- One name under which all definitions compute: `unfolding computing`.
-- Assumes nothing.
use mathlib.Core.List.{flat_map, zip}
use Rattle.walk.specs.Walk.{visit, walk, post_order}
use Rattle.walk.specs.Close.{rounds, close}
use Rattle.tables.specs.Readings.{rows_of, resolved, targets_of, values_of, is_analysed, entry_chunk_of, analysed}
use Rattle.tables.specs.Refusal.{sized, sizes_fit, below, below_or_missing, values_fit, rises, rows_rise, all_normal, uses_own, depended_resolved, plain_symbols, entries_once, imports_once, rows_agree, newer_fits, refusal}
use Rattle.replacement.specs.Replacement.{through, latest}
use Rattle.table.specs.Table.{read, current}
use Rattle.sort_modules.specs.Sort.{visited, numbers, sorted}
use Rattle.sort_modules.specs.OfProject.{numbers_of, sorted_of}
use Rattle.expected_visit.specs.Expected.{expected}
use Rattle.expected_visit.specs.OfProject.{expected_of}
use Rattle.circle_search.specs.Circles.{meet, circles}
use Rattle.import_circles.specs.OfProject.{walked, roots_of, circles_of}
use Rattle.entries_order.specs.Entries.{entries_order}
use Rattle.entries_order.specs.OfEntries.{expected_of_entries}
use Rattle.load_order.specs.LoadOrder.{sort_by, load_order}
use Rattle.entry_run.specs.Actual.{triggered, execute, eager_members, execute_members, visit_chunk, run_from, run_of, actual_of, hosts_of}
use Rattle.chunk_cycles.specs.Cycles.{cyclic_of, labels_of, reaches_cycle_of}
use Rattle.strong_connection.specs.Cycles.{connected, component, cyclic, label, labels, reaches_cycle}
use Rattle.strong_connection.specs.Cycles as cycles
use Rattle.sensitivity.specs.Marks.{wakes, uses_wrapped, ground_of, sensitive}
use Rattle.eligibility.specs.Eligible.{eligible}
use Rattle.risk_of_orders.specs.Risk.{early, is_flagged, order_risk, cycle_risk, risk_of}
use Rattle.wrap_rules.specs.Plan.{expected_sensitive_of, asked, start, plan_from, orders_of}
use Rattle.at_risk.specs.Promise.{actual_sensitive_of, order_risk_of_entry, cycle_risk_of_entry, risk_of_entry}
use Rattle.wrap_rules.specs.Rules.{suffix_asks, component_asks, leads, import_asks, symbol_touches, reference_touches, read_asks}
use Rattle.wrap_rules.specs.Plan as plan
use Rattle.wrap_plan.specs.Promise.{plan_of}
use Rattle.order_analysis.specs.Promise.{seeds_of, whole_plan}
use Rattle.table_share.specs.Counts.{eligible_count, planned_count}

unfoldable pub computing : Unit {0}
unfolding visit walk post_order rounds close rows_of resolved targets_of values_of is_analysed entry_chunk_of analysed sizes_fit below below_or_missing values_fit rises rows_rise all_normal uses_own depended_resolved plain_symbols entries_once imports_once rows_agree newer_fits refusal through latest read current meet circles walked roots_of circles_of visited numbers sorted numbers_of sorted_of expected expected_of entries_order expected_of_entries sort_by load_order triggered execute eager_members execute_members visit_chunk run_from run_of actual_of hosts_of connected component cyclic label labels reaches_cycle labels_of cyclic_of reaches_cycle_of cycles.reached_from wakes uses_wrapped ground_of sensitive eligible early is_flagged order_risk cycle_risk risk_of expected_sensitive_of order_risk_of_entry cycle_risk_of_entry risk_of_entry suffix_asks component_asks leads import_asks symbol_touches reference_touches read_asks asked start plan_from plan.reached orders_of plan_of seeds_of whole_plan flat_map sized zip actual_sensitive_of eligible_count planned_count
computing = tt
