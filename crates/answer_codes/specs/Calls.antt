-- What a call on a project that was lent promises.
-- Assumes nothing.
use Rattle.std.specs.Prelude.{◌≡◌, Bool, true, false, cond, List, ℕ, Result}
use Rattle.tables.specs.declared.Refusal.{Refusal}
use Rattle.tables.specs.Answers.{answer}
use Rattle.table.specs.Table.{Lent, lent}
use Rattle.arrangement.specs.OfProject.{lent_named}
use Rattle.sort_modules.specs.Promise.{SortModules}
use Rattle.sort_chunk_modules.specs.Promise.{SortChunkModules}
use Rattle.import_circles.specs.Promise.{ImportCircles}
use Rattle.expected_order.specs.Promise.{ExpectedOrder}
use Rattle.entries_order.specs.Promise.{EntriesOrder}
use Rattle.actual_order.specs.Promise.{ActualOrder}
use Rattle.chunk_cycles.specs.Promise.{LabelsPromise, ReachPromise}
use Rattle.at_risk.specs.Promise.{EntryOrderRisk, EntryCycleRisk}
use Rattle.wrap_plan.specs.Promise.{PlanFromSeeds}
use Rattle.takings_from_seeds.specs.Promise.{TakingsFromSeeds}
use Rattle.order_analysis.specs.Promise.{WholeAnalysis}
use Rattle.grounds.specs.Promise.{ModuleGrounds}
use Rattle.shares.specs.Promise.{WrittenShare}
use Rattle.load_trial.specs.Promise.{LoadRun}
use Rattle.wall_line.specs.Promise.{PageLine}
use Rattle.wall_page.specs.Promise.{EntryPage}

-- an operation with its argument
pub data Call : Type 0 where
  Sort : Call
  Circles : Call
  Expected : ℕ → Call
  Entries : List ℕ → Call
  Actual : ℕ → Call
  Labels : Call
  Reach : ℕ → Call
  OrderRisk : ℕ → Call
  CycleRisk : ℕ → Call
  Plan : List ℕ → Call
  Takings : List ℕ → Call
  Whole : Call
  Grounds : Call
  Share : Call
  Line : ℕ → ℕ → Call
  Page : ℕ → List ℕ → List ℕ → Call
  Arrange : List ℕ → Call
  Load : ℕ → List ℕ → Call
  Test : Call

-- whether an operation reads members in their order, as the arrangement has it
abbrev pub reads_member_order : Call → Bool
reads_member_order Sort = false
reads_member_order Circles = false
reads_member_order (Expected root) = false
reads_member_order (Entries entries) = false
reads_member_order (Actual root) = true
reads_member_order Labels = false
reads_member_order (Reach chunk) = false
reads_member_order (OrderRisk root) = true
reads_member_order (CycleRisk root) = false
reads_member_order (Plan seeds) = false
reads_member_order (Takings seeds) = false
reads_member_order Whole = true
reads_member_order Grounds = false
reads_member_order Share = true
reads_member_order (Line root number) = true
reads_member_order (Page root grounds plan) = true
reads_member_order (Arrange names) = false
reads_member_order (Load root plan) = true
reads_member_order Test = false

-- a table as it was lent to an operation, its members as they are read where it reads their order
abbrev pub lent_to : Call → ℕ → ℕ → List ℕ → List ℕ → List ℕ → Lent
lent_to call runtime dynamic bounds columns names =
    cond (reads_member_order call) (lent_named runtime dynamic bounds columns names) (lent runtime dynamic bounds columns names)

-- each operation's own promise, of the outputs that it has
abbrev pub Promise : Call → Lent → List ℕ → List ℕ → Result ℕ Refusal → List ℕ → List ℕ → Type 0
Promise Sort t first second r first' second' = SortModules t first second r first' second'
Promise Circles t first second r first' second' = ImportCircles t first second r first' second'
Promise (Expected root) t first second r first' second' = ExpectedOrder t root first r first'
Promise (Entries entries) t first second r first' second' = EntriesOrder t entries first r first'
Promise (Actual root) t first second r first' second' = ActualOrder t root first second r first' second'
Promise Labels t first second r first' second' = LabelsPromise t first r first'
Promise (Reach chunk) t first second r first' second' = ReachPromise t chunk r
Promise (OrderRisk root) t first second r first' second' = EntryOrderRisk t root first r first'
Promise (CycleRisk root) t first second r first' second' = EntryCycleRisk t root first r first'
Promise (Plan seeds) t first second r first' second' = PlanFromSeeds t seeds first r first'
Promise (Takings seeds) t first second r first' second' = TakingsFromSeeds t seeds first second r first' second'
Promise Whole t first second r first' second' = WholeAnalysis t first r first'
Promise Grounds t first second r first' second' = ModuleGrounds t first r first'
Promise Share t first second r first' second' = WrittenShare t first r first'
Promise (Line root number) t first second r first' second' = PageLine t root number first r first'
Promise (Page root grounds plan) t first second r first' second' = EntryPage t root grounds plan first r first'
Promise (Arrange names) t first second r first' second' = SortChunkModules t names first r first'
Promise (Load root plan) t first second r first' second' = LoadRun t root plan first second r first' second'
Promise Test t first second r first' second' = r ≡ answer t.refused 0
