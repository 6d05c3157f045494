-- What is left of the statements decides, and of a statement's uses none that was passed wakes.
-- Assumes nothing.
use Rattle.std.proofs.Common.{◌≡◌, ◌-◌, false}
use Rattle.lists.specs.Words.{any, count_from}
use Rattle.sensitivity.specs.Marks.{wakes, statement_wakes, uses_wrapped}
use Rattle.sensitivity.proofs.Searches.{at_row}
use Rattle.sensitivity.proofs.inner.StatementRows.eagerly_triggers_interop_module.Given as goal

abbrev pub invariant-search : goal.invariant-search
invariant-search l =
    let p = l.self in
    record {
      none : l.found ≡ false;
      left : any (statement_wakes p.normal p.wrap p.record_kind p.record_target p.statement_included p.use_statement p.use_record) (count_from l.s (l.s-end - l.s)) ≡ uses_wrapped p.normal p.wrap p.record_kind p.record_target p.statement_module p.statement_included p.use_statement p.use_record l.m;
    }

abbrev pub invariant-loop-u : goal.invariant-loop-u
invariant-loop-u l =
    let p = l.self in
    record {
      none : l.found ≡ false;
      passed : any (at_row (wakes p.normal p.wrap p.record_kind p.record_target) p.use_record) l.yielded ≡ false;
    }
