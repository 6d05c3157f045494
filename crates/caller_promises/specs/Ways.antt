-- The two ways of calling, beside the operations themselves: from C, and with the import records lent as a slice of records. An accepted call of each is what
-- the called function promises, with an answer that isn't a refusal. The whole analysis reads the members of a project with names as they are arranged.
-- Assumes nothing.
use Rattle.std.specs.Prelude.{◌≡◌, List, [], ℕ, ◌^◌, ◌<◌, take, None, Result}
use Rattle.tables.specs.Project.{Project}
use Rattle.tables.specs.Readings.{modules}
use Rattle.tables.specs.Answers.{refused_of, count_of}
use Rattle.tables.specs.declared.Refusal.{Refusal}
use Rattle.table.specs.Table.{Lent, lent, lent_with}
use Rattle.arrangement.specs.OfProject.{named_lent, lent_named}
use Rattle.wrap_plan.specs.Promise.{PlanFromSeeds}
use Rattle.order_analysis.specs.Promise.{WholeAnalysis}
use Rattle.record_columns.specs.declared.Record.{Record}
use Rattle.record_columns.specs.Rows.{importer_column, kind_column, target_column}
use Rattle.answer_codes.specs.Calls.{Plan, Whole}
use Rattle.answer_codes.specs.Exported.{Exported}

-- what an accepted call that makes a plan was lent and leaves: its project, the slice before and after, and the count
pub record Left : Type 0 where
  pub project : Project
  pub slice : List ℕ
  pub left : List ℕ
  pub count : ℕ

-- the modules' marks in the slice
abbrev pub marks_in : Left → List ℕ
marks_in l = take (modules l.project) l.left

-- a way of calling: the accepted calls of the plan from these seeds and of the whole analysis, and what each leaves
pub record Way : Type 1 where
  pub PlanCall : List ℕ → Type 0
  pub of_plan : (seeds : List ℕ) → PlanCall seeds → Left
  pub WholeCall : Type 0
  pub of_whole : WholeCall → Left

-- from C: `jolmuqter_plan_from_seeds` and `jolmuqter_plan` with an answer below 2 ^ 32

-- what the header says of an accepted call
abbrev pub is_count : ℕ → Type 0
is_count answer = answer < 2 ^ 32

pub record CPlanCall (seeds : List ℕ) : Type 0 where
  pub runtime : ℕ
  pub dynamic : ℕ
  pub bounds : List ℕ
  pub columns : List ℕ
  pub names : List ℕ
  pub slice : List ℕ
  pub answer : ℕ
  pub left : List ℕ
  pub promise : Exported (Plan seeds) (lent runtime dynamic bounds columns names) slice [] answer left []
  pub accepted : is_count answer

pub record CWholeCall : Type 0 where
  pub runtime : ℕ
  pub dynamic : ℕ
  pub bounds : List ℕ
  pub columns : List ℕ
  pub names : List ℕ
  pub slice : List ℕ
  pub answer : ℕ
  pub left : List ℕ
  pub promise : Exported Whole (lent_named runtime dynamic bounds columns names) slice [] answer left []
  pub accepted : is_count answer

abbrev pub from_c : Way
from_c = record {
  PlanCall = CPlanCall;
  of_plan = λ seeds c. record { project = (lent c.runtime c.dynamic c.bounds c.columns c.names).project; slice = c.slice; left = c.left; count = c.answer };
  WholeCall = CWholeCall;
  of_whole = λ c. record { project = (lent_named c.runtime c.dynamic c.bounds c.columns c.names).project; slice = c.slice; left = c.left; count = c.answer };
}

-- with records: `plan_from_seeds` and `analyze_execution_order` on a table `with_records`, with an answer that is no refusal

-- an answer that is no refusal
abbrev pub is_counted : Result ℕ Refusal → Type 0
is_counted answer = refused_of answer ≡ None

-- a table as it was lent, with a slice of records
abbrev pub lent_records : ℕ → ℕ → List ℕ → List ℕ → List ℕ → List Record → Lent
lent_records runtime dynamic bounds columns names records = lent_with runtime dynamic bounds columns names (importer_column records) (kind_column records) (target_column records)

-- a table as it was lent, with a slice of records, its members as they are read
abbrev pub lent_named_records : ℕ → ℕ → List ℕ → List ℕ → List ℕ → List Record → Lent
lent_named_records runtime dynamic bounds columns names records = named_lent names (lent_records runtime dynamic bounds columns names records)

pub record RecordPlanCall (seeds : List ℕ) : Type 0 where
  pub runtime : ℕ
  pub dynamic : ℕ
  pub bounds : List ℕ
  pub columns : List ℕ
  pub names : List ℕ
  pub records : List Record
  pub slice : List ℕ
  pub answer : Result ℕ Refusal
  pub left : List ℕ
  pub promise : PlanFromSeeds (lent_records runtime dynamic bounds columns names records) seeds slice answer left
  pub accepted : is_counted answer

pub record RecordWholeCall : Type 0 where
  pub runtime : ℕ
  pub dynamic : ℕ
  pub bounds : List ℕ
  pub columns : List ℕ
  pub names : List ℕ
  pub records : List Record
  pub slice : List ℕ
  pub answer : Result ℕ Refusal
  pub left : List ℕ
  pub promise : WholeAnalysis (lent_named_records runtime dynamic bounds columns names records) slice answer left
  pub accepted : is_counted answer

abbrev pub with_record_slices : Way
with_record_slices = record {
  PlanCall = RecordPlanCall;
  of_plan = λ seeds c. record { project = (lent_records c.runtime c.dynamic c.bounds c.columns c.names c.records).project; slice = c.slice; left = c.left; count = count_of c.answer };
  WholeCall = RecordWholeCall;
  of_whole = λ c. record { project = (lent_named_records c.runtime c.dynamic c.bounds c.columns c.names c.records).project; slice = c.slice; left = c.left; count = count_of c.answer };
}
