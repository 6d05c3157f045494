-- Every line of a page has 41 bytes, and past the last there is none.
-- Assumes nothing.
use Rattle.std.specs.Prelude.{◌≡◌, ℕ, ◌*◌, ◌<◌, ◌≤◌, Bool, List, [], length, get_or}
use mathlib.Core.Path.{ap, ◌∙◌}
use mathlib.Core.Logic.{⊎_elim}
use mathlib.Core.List.Memᴰ
use mathlib.Core.List.{Memᴰ}
use native.Mathlib.Omega.{arith}
use Rattle.lists.specs.Words.{keep, has}
use Rattle.lists.proofs.Members.{get_d-mem}
use Rattle.tables.specs.Project.{Project}
use Rattle.tables.specs.Readings.{modules}
use Rattle.tables.specs.Accepted.{Accepted}
use Rattle.tables.proofs.Accepted.{below-mem}
use Rattle.expected_visit.specs.OfProject.{expected_of}
use Rattle.entry_run.specs.Actual.{actual_of}
use Rattle.sensitivity.specs.Marks.{sensitive, sensitive_marks}
use Rattle.sensitivity.proofs.Marks.{sensitive-marks}
use Rattle.wrap_rules.specs.Plan.{expected_sensitive_of}
use Rattle.at_risk.specs.Promise.{actual_sensitive_of}
use Rattle.at_risk.proofs.Listed.{expected-order, actual-order}
use Rattle.order_analysis.specs.Promise.{whole_plan}
use Rattle.form.proofs.Fields.{split}
use Rattle.page_lines.proofs.Texts.{line-length}
use Rattle.page_rows.specs.Rows.{modules_of}
use Rattle.page_rows.proofs.Once.{line-listed}
use Rattle.page_text.specs.Page.{line_of, line_at, page_by}
use Rattle.page_text.specs.inner.Sheets.{Orders}
use Rattle.page_text.proofs.Lines.{line-in, line-past, lines-length}
use Rattle.page_text.proofs.Laying.{place-within}
use Rattle.entry_pages.specs.Marked.{marked_page, marked_line}
use Rattle.entry_pages.proofs.Orders.{keep-order}
use Rattle.wall_line.specs.Promise.{page_of, page_line_of}

module _ (expected actual : List ℕ) (n : ℕ) (o : Orders expected actual n) (planned : ℕ → Bool) where
  row_below : {x : ℕ} → Memᴰ x (modules_of expected actual) → x < n
  row_below h =
      ⊎_elim (λ t. below-mem expected o.expected_order.members t) (λ t. below-mem actual o.actual_order.members t)
      (Memᴰ.append_cases expected (line-listed expected actual h))

  one-length : (m : ℕ) → m < n → length (line_of expected actual planned m) ≡ 41
  unfolding line_of
  one-length m l =
      line-length m _ _ _ (omega (arith, o.few)) (omega (arith, place-within expected m, o.expected_order.few)) (omega (arith, place-within actual m, o.actual_order.few))

  pub each_line : (k : ℕ) → k < length (modules_of expected actual) → length (line_at expected actual planned k) ≡ 41
  unfolding line_at
  each_line k l =
      ap length (line-in (line_of expected actual planned) (modules_of expected actual) k l)
      ∙ one-length (get_or (modules_of expected actual) k 0) (row_below (get_d-mem (modules_of expected actual) k l))

  pub no_line : (k : ℕ) → length (modules_of expected actual) ≤ k → line_at expected actual planned k ≡ []
  unfolding line_at
  no_line k l = line-past (line_of expected actual planned) (modules_of expected actual) k l

  pub line-few : (k : ℕ) → length (line_at expected actual planned k) ≤ 41
  line-few k = ⊎_elim (λ l. omega (arith, each_line k l)) (λ l. omega (arith, ap length (no_line k l))) (split k (length (modules_of expected actual)))

  pub page-size : length (page_by expected actual planned) ≡ 41 * length (modules_of expected actual)
  unfolding page_by
  page-size = lines-length (line_of expected actual planned) (modules_of expected actual) (λ x h. one-length x (row_below h))

module _ (p : Project) (root : ℕ) where
  -- the two sensitive orders of an entry
  pub orders-of : Accepted p → Orders (expected_sensitive_of p root) (actual_sensitive_of p root) (modules p)
  unfolding expected_sensitive_of actual_sensitive_of
  orders-of a = record {
    few = a.sizes.normal;
    expected_order = keep-order (sensitive p) (expected_of p root) (modules p) (expected-order p a.sizes.normal root);
    actual_order = keep-order (sensitive p) (actual_of p root) (modules p) (actual-order p a.sizes.normal root);
  }

  -- with the marks of the sensitive modules and the plan of the whole analysis, a page is the page

  pub marked-whole : (number : ℕ) → marked_line p (sensitive_marks p) (whole_plan p) root number ≡ page_line_of p root number
  unfolding marked_line page_line_of expected_sensitive_of actual_sensitive_of
  marked-whole number = ap (λ (f : ℕ → Bool). line_at (keep f (expected_of p root)) (keep f (actual_of p root)) (has (whole_plan p)) number) (sensitive-marks p)

  pub marked-page : marked_page p (sensitive_marks p) (whole_plan p) root ≡ page_of p root
  unfolding marked_page page_of expected_sensitive_of actual_sensitive_of
  marked-page = ap (λ (f : ℕ → Bool). page_by (keep f (expected_of p root)) (keep f (actual_of p root)) (has (whole_plan p))) (sensitive-marks p)

  pub line-fits : Accepted p → (number : ℕ) → length (page_line_of p root number) ≤ 41
  unfolding page_line_of
  line-fits a number = line-few (expected_sensitive_of p root) (actual_sensitive_of p root) (modules p) (orders-of a) (has (whole_plan p)) number
