-- The rows looked at and the rows left are all.
use Rattle.std.proofs.Common.{◌≡◌, ◌-◌, ◌&&◌, length}
use Rattle.lists.specs.Words.{every, count_from}
use Rattle.tables.specs.Refusal.{fits_at, newer_fits}
use Rattle.column_tests.proofs.inner.newer_fits.Given as goal

abbrev pub invariant-loop-i : goal.invariant-loop-i
invariant-loop-i l = (l.fit && every (fits_at l.newer) (count_from l.i (length l.newer - l.i))) ≡ newer_fits l.newer
