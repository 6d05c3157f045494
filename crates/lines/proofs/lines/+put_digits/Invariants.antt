-- `lines::lines::put_digits` ends: each call writes a tenth of the number.
-- Assumes nothing.
use Rattle.lines.proofs.lines.+put_digits.Given as goal

abbrev pub decreases-put_digits : goal.decreases-put_digits
decreases-put_digits l = l.n
