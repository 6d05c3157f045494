-- A page has at most a line a module.
-- Assumes nothing.
use mathlib.Core.Logic.{⊎_elim}
use Rattle.std.specs.Prelude.{ℕ, ◌*◌, ◌≤◌, List, length}
use mathlib.Core.List.Memᴰ
use native.Mathlib.Omega.{arith}
use Rattle.lists.specs.Words.{keep, has}
use Rattle.lists.proofs.Distinct.{few-distinct}
use Rattle.tables.specs.Project.{Project}
use Rattle.tables.specs.Readings.{modules}
use Rattle.tables.specs.Accepted.{Accepted}
use Rattle.tables.proofs.Accepted.{below-mem}
use Rattle.expected_visit.specs.OfProject.{expected_of}
use Rattle.entry_run.specs.Actual.{actual_of}
use Rattle.at_risk.proofs.Listed.{expected-order, actual-order}
use Rattle.page_rows.specs.Rows.{modules_of}
use Rattle.page_rows.proofs.Once.{each-once, line-listed}
use Rattle.page_text.specs.inner.Sheets.{Orders}
use Rattle.entry_pages.specs.Marked.{marked_page}
use Rattle.entry_pages.proofs.Orders.{keep-order}
use Rattle.wall_line.proofs.Lines.{page-size}

-- each module has one line, so that there are as many lines as modules at most
pub modules-few : (expected actual : List ℕ) (n : ℕ) → Orders expected actual n → length (modules_of expected actual) ≤ n
modules-few expected actual n o =
    few-distinct n (modules_of expected actual) (each-once expected actual o.expected_order.once o.actual_order.once)
    (λ x h. ⊎_elim (λ t. below-mem expected o.expected_order.members t) (λ t. below-mem actual o.actual_order.members t) (Memᴰ.append_cases expected (line-listed expected actual h)))

module _ (p : Project) (a : Accepted p) (sensitives plan : List ℕ) (root : ℕ) where
  marked-orders : Orders (keep (has sensitives) (expected_of p root)) (keep (has sensitives) (actual_of p root)) (modules p)
  marked-orders = record {
    few = a.sizes.normal;
    expected_order = keep-order (has sensitives) (expected_of p root) (modules p) (expected-order p a.sizes.normal root);
    actual_order = keep-order (has sensitives) (actual_of p root) (modules p) (actual-order p a.sizes.normal root);
  }

  pub page-fits : length (marked_page p sensitives plan root) ≤ 41 * modules p
  unfolding marked_page
  page-fits =
      omega (
        arith,
        page-size (keep (has sensitives) (expected_of p root)) (keep (has sensitives) (actual_of p root)) (modules p) marked-orders (has plan),
        modules-few (keep (has sensitives) (expected_of p root)) (keep (has sensitives) (actual_of p root)) (modules p) marked-orders,
      )
