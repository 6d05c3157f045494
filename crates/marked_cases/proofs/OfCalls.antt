-- Demand 1 over all operations, proved.
-- Assumes nothing.
use mathlib.Core.Path.{◌≡◌, refl, sym, ap, ◌∙◌}
use mathlib.Core.List.{List, [], ◌∷◌, map}
use Prim.Native.Nat.{ℕ}
use Rattle.std.specs.Prelude.{Option, None, Some, Result, Ok}
use lib.ListN.{length}
use Rattle.lists.specs.Words.{ones, bit}
use Rattle.tables.specs.Answers.{number_of, refused_of, answer, count_of, counted, after}
use Rattle.tables.specs.declared.Refusal.{Refusal}
use Rattle.sort_modules.specs.OfProject.{numbers_of, sorted_of}
use Rattle.sort_modules.specs.Promise.{sort_verdict}
use Rattle.circle_gathering.specs.Gathering.{joined, lengths_of}
use Rattle.import_circles.specs.OfProject.{circles_of}
use Rattle.import_circles.specs.Promise.{circles_verdict}
use Rattle.expected_visit.specs.OfProject.{expected_of}
use Rattle.expected_order.specs.Promise.{expected_verdict}
use Rattle.entries_order.specs.OfEntries.{expected_of_entries}
use Rattle.entries_order.specs.Promise.{entries_verdict}
use Rattle.entry_run.specs.Actual.{actual_of, hosts_of}
use Rattle.actual_order.specs.Promise.{actual_verdict}
use Rattle.chunk_cycles.specs.Cycles.{labels_of, cyclic_of, reaches_cycle_of}
use Rattle.chunk_cycles.specs.Promise.{labels_verdict, reach_verdict}
use Rattle.at_risk.specs.Promise.{order_risk_of_entry, cycle_risk_of_entry, risk_verdict}
use Rattle.wrap_plan.specs.Promise.{plan_of, plan_verdict}
use Rattle.order_analysis.specs.Promise.{whole_plan, whole_verdict}
use Rattle.shares.specs.Promise.{share_numbers, share_verdict}
use Rattle.sensitivity.specs.Marks.{grounds_of}
use Rattle.grounds.specs.Promise.{grounds_verdict}
use Rattle.marked_cases.specs.Calls.{sort, circles, expected_order, entries_together, actual_order, chunk_labels, chunk_reach, order_risk_of_an_entry, cycle_risk_of_an_entry, plan_from_seeds, whole_analysis, share_of_modules, grounds_of_modules, Outcome, outcome}
use Rattle.marked_cases.specs.OfCalls.{PromisesGiveOutcomes, RefusalsChangeNothing}

abbrev Slices : Type 0
Slices = List (List ℕ × List ℕ)

-- the number of an answer, its count, and that a count is told by its number

number-of : (v : Option Refusal) (count : ℕ) → number_of (refused_of (answer v count)) ≡ number_of v
number-of None count = refl
number-of (Some x) count = refl

count-of : (v : Option Refusal) (count : ℕ) → count_of (answer v count) ≡ counted v count
count-of None count = refl
count-of (Some x) count = refl

counts : (v : Option Refusal) (count : ℕ) → refused_of (answer v count) ≡ None → answer v count ≡ Ok (count_of (answer v count))
counts None count e = refl
counts (Some x) count e = cc

same_outcome : {v w c d : ℕ} {left slices : List (List ℕ)} → v ≡ w → c ≡ d → slices ≡ left
    → ◌≡◌ {A = Outcome} (record { number = v; count = c; slices = slices }) (record { number = w; count = d; slices = left })
same_outcome e f g = rw (e, f, g)

module _ (v : Option Refusal) (count : ℕ) (r : Result ℕ Refusal) (e : r ≡ answer v count) where
  told : refused_of r ≡ None → r ≡ Ok (count_of r)
  told z = e ∙ counts v count (ap refused_of (sym e) ∙ z) ∙ ap (λ (a : Result ℕ Refusal). Ok (count_of a)) (sym e)

  tells : (slices : Slices) (left : List (List ℕ)) → map (λ (s : List ℕ × List ℕ). after v s.0 s.1) slices ≡ left
      → outcome v count slices ≡ record { number = number_of (refused_of r); count = count_of r; slices = left }
  tells slices left g = same_outcome (sym (ap (λ (a : Result ℕ Refusal). number_of (refused_of a)) e ∙ number-of v count)) (sym (ap count_of e ∙ count-of v count)) g

two : {a b c d : List ℕ} → a ≡ c → b ≡ d → ◌≡◌ {A = List (List ℕ)} (c ∷ d ∷ []) (a ∷ b ∷ [])
two e f = rw (e, f)

one : {a c : List ℕ} → a ≡ c → ◌≡◌ {A = List (List ℕ)} (c ∷ []) (a ∷ [])
one e = rw e

pub promises_give_outcomes : PromisesGiveOutcomes
promises_give_outcomes = record {
  of_sort = λ t numbers sorted numbers' sorted' r p.
      let v : Option Refusal = sort_verdict t (length numbers) (length sorted) in
      let c : ℕ = length (sorted_of t.project) in
      record { outcome = tells v c r p.answered ((numbers, numbers_of t.project) ∷ (sorted, sorted_of t.project) ∷ []) _ (two p.numbered p.listed); accepted = told v c r p.answered };
  of_circles = λ t paths lengths paths' lengths' r p.
      let v : Option Refusal = circles_verdict t (length paths) (length lengths) in
      let c : ℕ = length (circles_of t.project) in
      record { outcome = tells v c r p.answered ((paths, joined (circles_of t.project)) ∷ (lengths, lengths_of (circles_of t.project)) ∷ []) _ (two p.listed p.measured); accepted = told v c r p.answered };
  of_expected_order = λ t root order order' r p.
      let v : Option Refusal = expected_verdict t root (length order) in
      let c : ℕ = length (expected_of t.project root) in
      record { outcome = tells v c r p.answered ((order, expected_of t.project root) ∷ []) _ (one p.written); accepted = told v c r p.answered };
  of_entries_order = λ t entries order order' r p.
      let v : Option Refusal = entries_verdict t entries (length order) in
      let c : ℕ = length (expected_of_entries t.project entries) in
      record { outcome = tells v c r p.answered ((order, expected_of_entries t.project entries) ∷ []) _ (one p.written); accepted = told v c r p.answered };
  of_actual_order = λ t root order hosts order' hosts' r p.
      let v : Option Refusal = actual_verdict t root (length order) (length hosts) in
      let c : ℕ = length (actual_of t.project root) in
      record { outcome = tells v c r p.answered ((order, actual_of t.project root) ∷ (hosts, hosts_of t.project root) ∷ []) _ (two p.listed p.noted); accepted = told v c r p.answered };
  of_labels = λ t labels labels' r p.
      let v : Option Refusal = labels_verdict t (length labels) in
      let c : ℕ = length (cyclic_of t.project) in
      record { outcome = tells v c r p.answered ((labels, labels_of t.project) ∷ []) _ (one p.written); accepted = told v c r p.answered };
  of_reach = λ t chunk r p.
      let v : Option Refusal = reach_verdict t chunk in
      let c : ℕ = bit (reaches_cycle_of t.project chunk) in
      record { outcome = tells v c r p.answered [] [] refl; accepted = told v c r p.answered };
  of_order_risk = λ t root marks marks' r p.
      let v : Option Refusal = risk_verdict t root (length marks) in
      let c : ℕ = ones (order_risk_of_entry t.project root) in
      record { outcome = tells v c r p.answered ((marks, order_risk_of_entry t.project root) ∷ []) _ (one p.written); accepted = told v c r p.answered };
  of_cycle_risk = λ t root marks marks' r p.
      let v : Option Refusal = risk_verdict t root (length marks) in
      let c : ℕ = ones (cycle_risk_of_entry t.project root) in
      record { outcome = tells v c r p.answered ((marks, cycle_risk_of_entry t.project root) ∷ []) _ (one p.written); accepted = told v c r p.answered };
  of_plan = λ t seeds marks marks' r p.
      let v : Option Refusal = plan_verdict t seeds (length marks) in
      let c : ℕ = ones (plan_of t.project seeds) in
      record { outcome = tells v c r p.answered ((marks, plan_of t.project seeds) ∷ []) _ (one p.written); accepted = told v c r p.answered };
  of_whole_analysis = λ t marks marks' r p.
      let v : Option Refusal = whole_verdict t (length marks) in
      let c : ℕ = ones (whole_plan t.project) in
      record { outcome = tells v c r p.answered ((marks, whole_plan t.project) ∷ []) _ (one p.written); accepted = told v c r p.answered };
  of_grounds = λ t marks marks' r p.
      let v : Option Refusal = grounds_verdict t (length marks) in
      let c : ℕ = ones (grounds_of t.project) in
      record { outcome = tells v c r p.answered ((marks, grounds_of t.project) ∷ []) _ (one p.written); accepted = told v c r p.answered };
  of_share = λ t out out' r p.
      let v : Option Refusal = share_verdict t (length out) in
      record { outcome = tells v 4 r p.answered ((out, share_numbers t.project) ∷ []) _ (one p.written); accepted = told v 4 r p.answered };
}

-- an outcome with a number
unchanged : (v : Option Refusal) (count : ℕ) (slices : Slices) → (number_of v ≡ 0 → ⊥) → ((outcome v count slices).count ≡ 0) × ((outcome v count slices).slices ≡ map (λ (s : List ℕ × List ℕ). s.0) slices)
unchanged None count slices n = absurd (n refl)
unchanged (Some x) count slices n = (refl, refl)

pub refusals_change_nothing : RefusalsChangeNothing
unfolding RefusalsChangeNothing
refusals_change_nothing t (sort numbers sorted) n =
    unchanged (sort_verdict t (length numbers) (length sorted)) (length (sorted_of t.project)) ((numbers, numbers_of t.project) ∷ (sorted, sorted_of t.project) ∷ []) n
refusals_change_nothing t (circles paths lengths) n =
    unchanged (circles_verdict t (length paths) (length lengths)) (length (circles_of t.project)) ((paths, joined (circles_of t.project)) ∷ (lengths, lengths_of (circles_of t.project)) ∷ []) n
refusals_change_nothing t (expected_order root order) n =
    unchanged (expected_verdict t root (length order)) (length (expected_of t.project root)) ((order, expected_of t.project root) ∷ []) n
refusals_change_nothing t (entries_together entries order) n =
    unchanged (entries_verdict t entries (length order)) (length (expected_of_entries t.project entries)) ((order, expected_of_entries t.project entries) ∷ []) n
refusals_change_nothing t (actual_order root order hosts) n =
    unchanged (actual_verdict t root (length order) (length hosts)) (length (actual_of t.project root)) ((order, actual_of t.project root) ∷ (hosts, hosts_of t.project root) ∷ []) n
refusals_change_nothing t (chunk_labels labels) n =
    unchanged (labels_verdict t (length labels)) (length (cyclic_of t.project)) ((labels, labels_of t.project) ∷ []) n
refusals_change_nothing t (chunk_reach chunk) n = unchanged (reach_verdict t chunk) (bit (reaches_cycle_of t.project chunk)) [] n
refusals_change_nothing t (order_risk_of_an_entry root marks) n =
    unchanged (risk_verdict t root (length marks)) (ones (order_risk_of_entry t.project root)) ((marks, order_risk_of_entry t.project root) ∷ []) n
refusals_change_nothing t (cycle_risk_of_an_entry root marks) n =
    unchanged (risk_verdict t root (length marks)) (ones (cycle_risk_of_entry t.project root)) ((marks, cycle_risk_of_entry t.project root) ∷ []) n
refusals_change_nothing t (plan_from_seeds seeds marks) n =
    unchanged (plan_verdict t seeds (length marks)) (ones (plan_of t.project seeds)) ((marks, plan_of t.project seeds) ∷ []) n
refusals_change_nothing t (whole_analysis marks) n =
    unchanged (whole_verdict t (length marks)) (ones (whole_plan t.project)) ((marks, whole_plan t.project) ∷ []) n
refusals_change_nothing t (grounds_of_modules marks) n =
    unchanged (grounds_verdict t (length marks)) (ones (grounds_of t.project)) ((marks, grounds_of t.project) ∷ []) n
refusals_change_nothing t (share_of_modules out) n = unchanged (share_verdict t (length out)) 4 ((out, share_numbers t.project) ∷ []) n
