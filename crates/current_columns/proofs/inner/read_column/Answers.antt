-- `read_column`: what was found is what is read.
use Rattle.std.proofs.Common.{ℕ, List, map, ap, ◌∙◌}
use Rattle.replacement.specs.inner.Passes.{found_at}
use Rattle.replacement.proofs.Chains.{found-all-read}
use Rattle.current_columns.proofs.inner.read_column.Goals as goal

pub returns : goal.returns
returns c = c.read_through.ensures ∙ ap (λ (f : List ℕ). map (found_at f) c.args.column.now) c.requires.found ∙ found-all-read c.args.newer.now c.args.column.now
