-- A turn by the marks at hand.
use Rattle.std.proofs.Common.{sym, ap, ◌∙◌, arith}
use lib.ListN.{drop_of_length-le}
use Rattle.lists.proofs.Laws.{mark-in, mark-out}
use Rattle.column_tests.proofs.Every.{drop-next}
use Rattle.column_tests.proofs.Once.{marked, mark, run, run-turn, run-stop, run_end, entries-start}
use Rattle.column_tests.proofs.inner.entries_once.Goals as goal

pub loop-module-init : goal.loop-module-init
loop-module-init c = entries-start 4096 c.args.entry.now c.requires

pub returns-then-marks-at-ne0 : goal.returns-then-marks-at-ne0
returns-then-marks-at-ne0 c =
    run-stop marked mark _ _ _ _ (ap (run marked mark c.loop-module.marks) (sym (drop-next c.args.entry.now c.loop-module.module-index (omega arith))) ∙ c.loop-module.invariant) (mark-in _ c.if-marks-at-ne0.true)

pub loop-module-preserved : goal.loop-module-preserved
loop-module-preserved c =
    run-turn marked mark _ _ _ _ (ap (run marked mark c.loop-module.marks) (sym (drop-next c.args.entry.now c.loop-module.module-index (omega arith))) ∙ c.loop-module.invariant) (mark-out _ c.if-marks-at-ne0.false)

pub returns : goal.returns
returns c = run_end marked mark _ _ (ap (run marked mark c.loop-module.marks) (sym (drop_of_length-le c.args.entry.now (omega arith))) ∙ c.loop-module.invariant)
