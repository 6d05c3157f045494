-- None of the chunks that were passed is in both.
-- Assumes nothing.
use Rattle.std.proofs.Common.{◌≡◌, false}
use Rattle.lists.specs.Words.{any, up_to}
use Rattle.component_labels.specs.inner.Labelling.{in_both}
use Rattle.component_labels.proofs.inner.first_both.Given as goal

abbrev pub invariant-loop-d : goal.invariant-loop-d
invariant-loop-d l = any (in_both l.ahead l.behind) (up_to l.d) ≡ false
