-- Demand 3 for callers from C and of the record forms, proved.
-- Assumes nothing.
use Rattle.std.specs.Prelude.{None, Result, Ok, Err}
use mathlib.Core.Path.{◌≡◌, refl, sym, subst}
use mathlib.Core.List.{List}
use Prim.Native.Nat.{ℕ, ◌^◌, ◌<◌}
use native.Mathlib.Omega.{arith}
use Rattle.tables.specs.Project.{Project}
use Rattle.tables.specs.Answers.{refused_of, count_of}
use Rattle.tables.specs.declared.Refusal.{Refusal}
use Rattle.table.specs.Table.{table, with_records, lent}
use Rattle.table.proofs.Laws.{lent-current}
use Rattle.arrangement.specs.OfProject.{lent_named}
use Rattle.arrangement.proofs.OfProject.{lent-named}
use Rattle.record_columns.specs.declared.Record.{Record}
use Rattle.record_columns.specs.Rows.{importer_column, kind_column, target_column}
use Rattle.answer_codes.specs.Exported.{coded}
use Rattle.caller_promises.specs.Ways.{from_c, lent_records, lent_named_records, with_record_slices}
use Rattle.caller_promises.specs.DemandThree.{DemandThreeFromC, DemandThreeOfRecordForms}
use Rattle.caller_promises.proofs.Held.{demand-three, plan-held, whole-held}

-- an answer whose code is below 2 ^ 32 is no refusal, and the code is its count
below : (a : Result ℕ Refusal) → coded a < 2 ^ 32 → (refused_of a ≡ None) × (coded a ≡ count_of a)
below (Err e) l = absurd (omega arith)
below (Ok c) l = (refl, refl)

module _ (r : ℕ) (a : Result ℕ Refusal) (code : r ≡ coded a) (l : r < 2 ^ 32) where
  taken : (refused_of a ≡ None) × (r ≡ count_of a)
  taken = let b = below a (subst (λ (n : ℕ). n < 2 ^ 32) code l) in (b.0, subst (λ (n : ℕ). n ≡ count_of a) (sym code) b.1)

pub demand_three_from_c : DemandThreeFromC
unfolding DemandThreeFromC
demand_three_from_c =
    demand-three from_c
    (λ seeds c.
    let t = lent c.runtime c.dynamic c.bounds c.columns c.names in
    let e = c.promise in
    let k = taken c.answer e.answer e.code c.accepted in
    plan-held t (lent-current c.bounds c.columns c.names (table c.runtime c.dynamic c.bounds c.columns)) c.slice c.left e.answer k.0 c.answer k.1 seeds e.promised)
    (λ c.
    let t = lent_named c.runtime c.dynamic c.bounds c.columns c.names in
    let e = c.promise in
    let k = taken c.answer e.answer e.code c.accepted in
    whole-held t (lent-named c.bounds c.columns c.names (table c.runtime c.dynamic c.bounds c.columns)) c.slice c.left e.answer k.0 c.answer k.1 e.promised)

-- a table with records beside it
abbrev written : ℕ → ℕ → List ℕ → List ℕ → List Record → Project
written runtime dynamic bounds columns records = with_records (table runtime dynamic bounds columns) (importer_column records) (kind_column records) (target_column records)

pub demand_three_of_record_forms : DemandThreeOfRecordForms
unfolding DemandThreeOfRecordForms
demand_three_of_record_forms =
    demand-three with_record_slices
    (λ seeds c.
    let t = lent_records c.runtime c.dynamic c.bounds c.columns c.names c.records in
    plan-held t (lent-current c.bounds c.columns c.names (written c.runtime c.dynamic c.bounds c.columns c.records)) c.slice c.left c.answer c.accepted (count_of c.answer) refl seeds c.promise)
    (λ c.
    let t = lent_named_records c.runtime c.dynamic c.bounds c.columns c.names c.records in
    whole-held t (lent-named c.bounds c.columns c.names (written c.runtime c.dynamic c.bounds c.columns c.records)) c.slice c.left c.answer c.accepted (count_of c.answer) refl c.promise)
