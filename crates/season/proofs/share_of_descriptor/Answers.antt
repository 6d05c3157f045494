-- What a text gives fits.
use Rattle.share_text.proofs.Texts.{text-fits}
use Rattle.season.proofs.share_of_descriptor.Goals as goal

pub returns : goal.returns
returns g c = text-fits c.first_of.result.now c.share_of_text.result c.share_of_text.ensures
