-- The two orders of an entry are orders of modules: each has a row, and none stands twice. A list, as a slice that it was written to holds it.
-- Assumes nothing.
use Rattle.std.specs.Prelude.{◌≡◌, ℕ, ◌<◌, ◌≤◌, List, length, get_or, take, drop}
use mathlib.Core.Path.{sym, ap, ◌∙◌}
use mathlib.Core.List.{Memᴰ}
use native.Mathlib.Omega.{arith}
use lib.ListN.{length-append}
use lib.Seq.{take_at}
use Rattle.lists.specs.Words.{Distinct}
use Rattle.lists.proofs.Members.{get_d-mem}
use Rattle.tables.specs.Project.{Project}
use Rattle.tables.specs.Readings.{modules}
use Rattle.tables.specs.Refusal.{module_limit}
use Rattle.expected_visit.specs.OfProject.{expected_of}
use Rattle.expected_visit.proofs.Laws.{expected-distinct, expected-length, expected-in}
use Rattle.entry_run.specs.Actual.{actual_of}
use Rattle.entry_run.specs.inner.Cores.{Written}
use Rattle.entry_run.proofs.OfProject.{actual-distinct, actual-length, actual-member}
use Rattle.risk_of_orders.specs.inner.Steps.{Order}
use Rattle.at_risk.specs.inner.OverTable.{Placed}

-- a list without repeats of modules that have a row
is-order : (xs : List ℕ) (n : ℕ) → n ≤ module_limit → Distinct xs → length xs ≤ n → ((x : ℕ) → Memᴰ x xs → x < n) → Order xs n
is-order xs n few once size inside = record { members = λ i l. inside (get_or xs i 0) (get_d-mem xs i l); once = once; few = omega arith }

module _ (p : Project) (few : modules p ≤ module_limit) (root : ℕ) where
  pub expected-order : Order (expected_of p root) (modules p)
  unfolding expected_of
  expected-order =
      is-order _ (modules p) few
      (expected-distinct p.normal p.included p.record_module p.record_kind p.record_target root)
      (expected-length p.normal p.included p.record_module p.record_kind p.record_target root)
      (expected-in p.normal p.included p.record_module p.record_kind p.record_target root)

  pub actual-order : Order (actual_of p root) (modules p)
  actual-order = is-order _ (modules p) few (actual-distinct p root) (actual-length p root) (λ x h. (actual-member p root x h).0)

  -- the expected order has a place for each module
  pub expected-placed : {xs : List ℕ} {n : ℕ} → xs ≡ expected_of p root → n ≡ modules p → Placed p xs n
  expected-placed e f = record { order = rw e expected-order; size = f }

-- a list that was written to a slice
module _ {list old new : List ℕ} {count : ℕ} (w : Written list old new count) where
  pub written-room : count ≤ length new
  written-room = omega (arith, w.count, ap length w.places, length-append list (drop (length list) old))

  pub written-is : take count new ≡ list
  written-is = ap (take count) w.places ∙ take_at list (drop (length list) old) count (sym w.count)
