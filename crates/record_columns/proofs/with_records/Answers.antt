-- `record_columns::with_records`: a list over the limit is refused, and the first rows of the arrays are the records' columns.
-- Assumes nothing.
use Rattle.std.proofs.Common.{◌≡◌, ℕ, List, take, refl}
use Rattle.table.specs.Table.{Lent, lent_with}
use Rattle.record_columns.proofs.Copied.{as-columns, too_many}
use Rattle.record_columns.proofs.with_records.Goals as goal

pub returns-then-rows-gt-ROW_LIMIT : goal.returns-then-rows-gt-ROW_LIMIT
returns-then-rows-gt-ROW_LIMIT c = λ records is. too_many c.args.table.now c.args.made.now records is c.if-rows-gt-ROW_LIMIT.true

pub returns : goal.returns
returns c = λ records is.
    let t = c.args.table.now in
    let m = c.args.made.now in
    let lent : List ℕ → List ℕ → List ℕ → Lent = lent_with t.runtime t.dynamic t.bounds.now t.columns.now t.names.now in
    record {
      lent = as-columns (λ (importers kinds targets : List ℕ). lent (take m.rows m.importers) (take m.rows m.kinds) (take m.rows m.targets) ≡ lent importers kinds targets) m records is c.if-rows-gt-ROW_LIMIT.false refl;
      names = refl;
    }
