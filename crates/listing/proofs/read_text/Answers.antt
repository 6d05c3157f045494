-- `read_text`: what was read is lent as the project whose text it is.
-- Assumes nothing.
use Rattle.std.proofs.Common.{◌∙◌}
use Rattle.listing.proofs.Answered.{reads-lent}
use Rattle.listing.proofs.read_text.Goals as goal

pub returns : goal.returns
returns c =
    let a = c.in_ok-values.ensures in
    let r = reads-lent _ c.args.space.now.settings _ c.args.space.now.bounds _ _ _ a.0 a.1 a.2 _ a in
    (a.0, a.1, a.2, c.new.ensures.lent ∙ r.1, c.new.ensures.names ∙ r.0)
