-- Row by row (`Pass`).
-- Assumes nothing.
use Rattle.tables.specs.Readings.{modules, is_static, any_target, row_targets}
use Rattle.circle_rows.proofs.Rows.{Pass}
use Rattle.circle_rows.proofs.inner.lead_rows.Given as goal

abbrev pub invariant-loop-row : goal.invariant-loop-row
invariant-loop-row l =
    let p = l.columns in
    Pass p.record_module (row_targets (is_static p.dynamic) any_target p.normal p.record_kind p.record_target) (modules p) l.row l.seen l.leads
