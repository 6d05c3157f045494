-- What holds of an entry's page: each module has one line, each line 41 bytes, and the shift lies within -4094 and 4094.
-- Assumes nothing.
use Rattle.std.specs.Prelude.{◌≡◌, ℕ, suc, ◌*◌, ◌<◌, ◌≤◌, false, List, [], length, pos, ◌-ℤ◌, nat_abs}
use mathlib.Core.Path.{refl, sym, ◌∙◌}
use mathlib.Core.Bool.{true≢false}
use native.Mathlib.Omega.{arith}
use borrow.Author.Tests.{eq-eqb}
use Rattle.lists.specs.Words.{keep, has, Distinct}
use Rattle.lists.proofs.Laws.{mem-keep}
use Rattle.lists.proofs.Distinct.{fewer-distinct}
use Rattle.tables.specs.Project.{Project}
use Rattle.tables.specs.Readings.{modules}
use Rattle.tables.specs.Accepted.{Accepted}
use Rattle.tables.proofs.Accepted.{below-mem}
use Rattle.expected_visit.specs.OfProject.{expected_of}
use Rattle.entry_run.specs.Actual.{actual_of}
use Rattle.sensitivity.specs.Marks.{ground_of, sensitive}
use Rattle.wrap_rules.specs.Plan.{expected_sensitive_of}
use Rattle.at_risk.specs.Promise.{actual_sensitive_of}
use Rattle.order_analysis.specs.Promise.{whole_plan}
use Rattle.risk_of_orders.specs.inner.Steps.{Order}
use Rattle.page_lines.proofs.Shifts.{shift-within}
use Rattle.page_rows.specs.Rows.{modules_of}
use Rattle.page_rows.proofs.Once.{each-once}
use Rattle.page_text.specs.Page.{place_in}
use Rattle.page_text.proofs.Laying.{place-within}
use Rattle.wall_line.specs.Promise.{page_of, page_line_of}
use Rattle.wall_line.proofs.Lines.{orders-of, each_line, no_line, page-size}

-- the runtime isn't sensitive
runtime-insensitive : (p : Project) → sensitive p p.runtime ≡ false
unfolding sensitive ground_of
runtime-insensitive p = rw (eq-eqb p.runtime p.runtime refl)

-- so that an order of sensitive modules has one less than there are modules, at most
fewer : (p : Project) → Accepted p → (xs : List ℕ) → Order (keep (sensitive p) xs) (modules p) → length (keep (sensitive p) xs) < modules p
fewer p a xs o =
    fewer-distinct (modules p) p.runtime (keep (sensitive p) xs) a.values.runtime
    (λ h. true≢false (sym (mem-keep (sensitive p) xs h).1 ∙ runtime-insensitive p))
    o.once (λ x h. below-mem (keep (sensitive p) xs) o.members h)

module _ (p : Project) (a : Accepted p) (root : ℕ) where
  abbrev expected : List ℕ
  expected = expected_sensitive_of p root

  abbrev actual : List ℕ
  actual = actual_sensitive_of p root

  -- each module has one line
  pub each-module-once : Distinct (modules_of expected actual)
  each-module-once = let o = orders-of p root a in each-once expected actual o.expected_order.once o.actual_order.once

  -- each line has 41 bytes, past the last there is none, and the page is as long as its lines
  pub each-line-41 : (number : ℕ) → number < length (modules_of expected actual) → length (page_line_of p root number) ≡ 41
  unfolding page_line_of
  each-line-41 number l = each_line expected actual (modules p) (orders-of p root a) (has (whole_plan p)) number l

  pub none-past-the-last : (number : ℕ) → length (modules_of expected actual) ≤ number → page_line_of p root number ≡ []
  unfolding page_line_of
  none-past-the-last number l = no_line expected actual (modules p) (orders-of p root a) (has (whole_plan p)) number l

  pub page-of-lines : length (page_of p root) ≡ 41 * length (modules_of expected actual)
  unfolding page_of
  page-of-lines = page-size expected actual (modules p) (orders-of p root a) (has (whole_plan p))

  expected-fewer : length expected < modules p
  unfolding expected_sensitive_of
  expected-fewer = fewer p a (expected_of p root) (orders-of p root a).expected_order

  actual-fewer : length actual < modules p
  unfolding actual_sensitive_of
  actual-fewer = fewer p a (actual_of p root) (orders-of p root a).actual_order

  -- a module with both places, i in the expected and j in the actual order
  pub shift-of-entry : (m i j : ℕ) → place_in expected m ≡ suc i → place_in actual m ≡ suc j → nat_abs (pos j -ℤ pos i) ≤ 4094
  shift-of-entry m i j e f =
      shift-within j i (omega (arith, place-within actual m, actual-fewer, a.sizes.normal)) (omega (arith, place-within expected m, expected-fewer, a.sizes.normal))
