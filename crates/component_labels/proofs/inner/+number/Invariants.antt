-- What `component_labels::inner::number` keeps as it goes. The measure is the number of chunks that have no number.
-- Assumes nothing.
use Rattle.std.proofs.Common.{length, ◌≡◌}
use Rattle.lists.specs.Words.{zeros}
use Rattle.component_labels.specs.inner.Labelling.{Numbered}
use Rattle.component_labels.proofs.inner.+number.Given as goal

abbrev pub decreases-number : goal.decreases-number
decreases-number l = zeros l.numbers.now

abbrev pub invariant-loop-target : goal.invariant-loop-target
invariant-loop-target l = (length l.numbers ≡ length l.fn.numbers) × Numbered l.initial.count l.initial.numbers l.count l.numbers
