-- What the operations promise of a table that `with_records` gives is what they promise of that table with the records beside it.
-- Assumes nothing.
use Rattle.std.specs.Prelude.{Result, Ok}
use mathlib.Core.Path.{ap₂, subst}
use mathlib.Core.List.{List}
use Prim.Native.Nat.{ℕ}
use Rattle.tables.specs.declared.Refusal.{Refusal}
use Rattle.table.specs.declared.Table.{Table}
use Rattle.table.specs.Table.{Lent}
use Rattle.table.specs.Lending.{as_lent}
use Rattle.arrangement.specs.OfProject.{as_named, named_lent}
use Rattle.wrap_plan.specs.Promise.{PlanFromSeeds}
use Rattle.order_analysis.specs.Promise.{WholeAnalysis}
use Rattle.record_columns.specs.declared.Record.{Record}
use Rattle.record_columns.specs.Beside.{LentBeside}
use Rattle.caller_promises.specs.Ways.{is_counted, lent_records, lent_named_records, RecordPlanCall, RecordWholeCall}

-- u is what `with_records` answers on the table t and the records, and an operation is called on u
module _ (t : Table) (records : List Record) (u : Table) (beside : LentBeside t records (Ok u)) (slice : List ℕ) (r : Result ℕ Refusal) (left : List ℕ) where
  -- the premise of `RecordPlanCall`
  pub plan-beside : (seeds : List ℕ) → PlanFromSeeds (as_lent u) seeds slice r left
      → PlanFromSeeds (lent_records t.runtime t.dynamic t.bounds.now t.columns.now t.names.now records) seeds slice r left
  plan-beside seeds promise = subst (λ (l : Lent). PlanFromSeeds l seeds slice r left) beside.lent promise

  -- and of `RecordWholeCall`
  pub whole-beside : WholeAnalysis (as_named u) slice r left
      → WholeAnalysis (lent_named_records t.runtime t.dynamic t.bounds.now t.columns.now t.names.now records) slice r left
  whole-beside promise = subst (λ (l : Lent). WholeAnalysis l slice r left) (ap₂ (λ (names : List ℕ) (l : Lent). named_lent names l) beside.names beside.lent) promise

  -- so where the answer is no refusal, these are the calls that demand 3 is said of
  pub plan-call : (seeds : List ℕ) → PlanFromSeeds (as_lent u) seeds slice r left → is_counted r → RecordPlanCall seeds
  plan-call seeds promise counted = record {
    runtime = t.runtime;
    dynamic = t.dynamic;
    bounds = t.bounds.now;
    columns = t.columns.now;
    names = t.names.now;
    records = records;
    slice = slice;
    answer = r;
    left = left;
    promise = plan-beside seeds promise;
    accepted = counted;
  }

  pub whole-call : WholeAnalysis (as_named u) slice r left → is_counted r → RecordWholeCall
  whole-call promise counted = record {
    runtime = t.runtime;
    dynamic = t.dynamic;
    bounds = t.bounds.now;
    columns = t.columns.now;
    names = t.names.now;
    records = records;
    slice = slice;
    answer = r;
    left = left;
    promise = whole-beside promise;
    accepted = counted;
  }
