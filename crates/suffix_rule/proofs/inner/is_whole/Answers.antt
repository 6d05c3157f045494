-- The first eligible member stands at or after the first planned one.
-- Assumes nothing.
use borrow.Author.Tests.{leb-true}
use Rattle.suffix_rule.proofs.Extending.{whole-suffix}
use Rattle.suffix_rule.proofs.inner.is_whole.Goals as goal

pub returns : goal.returns
returns c e = whole-suffix _ _ _ _ _ _ c.first_in-first.ensures c.first_in-from.ensures (leb-true _ _ e)
