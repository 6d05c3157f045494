-- "A page for the workshop wall" of an entry of a project, and what the operation of one line promises.
-- Assumes nothing.
use Rattle.std.specs.Prelude.{◌≡◌, ℕ, List, length, nat_le, Option, Result}
use Rattle.lists.specs.Words.{has}
use Rattle.tables.specs.Project.{Project}
use Rattle.tables.specs.Readings.{is_analysed}
use Rattle.tables.specs.Answers.{verdict, answer, after}
use Rattle.tables.specs.declared.Refusal.{Refusal}
use Rattle.table.specs.Table.{Lent}
use Rattle.wrap_rules.specs.Plan.{expected_sensitive_of}
use Rattle.at_risk.specs.Promise.{actual_sensitive_of}
use Rattle.order_analysis.specs.Promise.{whole_plan}
use Rattle.page_text.specs.Page.{line_at, page_by}

module _ (p : Project) (root : ℕ) where
  -- an entry's page: its two sensitive orders, and "planned by the whole analysis"
  unfoldable pub page_of : List ℕ
  page_of = page_by (expected_sensitive_of p root) (actual_sensitive_of p root) (has (whole_plan p))

  -- "One line, called by its entry and its number from 0": empty "past the last"
  unfoldable pub page_line_of : ℕ → List ℕ
  page_line_of number = line_at (expected_sensitive_of p root) (actual_sensitive_of p root) (has (whole_plan p)) number

-- what refuses a call: "An entry unfit for risk gives 5, and 6 is given for a slice under 41 bytes"
abbrev pub line_verdict : Lent → ℕ → ℕ → Option Refusal
line_verdict t root room = verdict t.refused (is_analysed t.project root) (nat_le 41 room)

-- a call's answer, and the slice that it leaves
pub record PageLine (t : Lent) (root number : ℕ) (line : List ℕ) (r : Result ℕ Refusal) (line' : List ℕ) : Type 0 where
  pub answered : r ≡ answer (line_verdict t root (length line)) (length (page_line_of t.project root number))
  pub written : line' ≡ after (line_verdict t root (length line)) line (page_line_of t.project root number)
