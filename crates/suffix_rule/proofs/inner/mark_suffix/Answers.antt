-- `mark_suffix`: the first planned member is found, and what stands from it on is marked.
-- Assumes nothing.
use Rattle.std.proofs.lemmas.List.{take_rest}
use Rattle.suffix_rule.proofs.Extending.{suffix-marked}
use Rattle.suffix_rule.proofs.inner.mark_suffix.Goals as goal

pub returns : goal.returns
returns c = suffix-marked _ _ _ _ _ _ c.first_in-from.ensures (simp take_rest at c.mark_owners.ensures)
