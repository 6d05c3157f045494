-- Symbols first, then references.
-- Assumes nothing.
use Rattle.std.proofs.Common.{◌∙◌}
use Rattle.current_columns.specs.AsProject.{project}
use Rattle.marks.proofs.Parts.{part_length}
use Rattle.read_rule.proofs.Marking.{touching-marked}
use Rattle.read_rule.proofs.inner.mark_touching.Goals as goal

pub returns : goal.returns
unfolding project
returns c =
    let size = c.mark_symbols.auto.symbols ∙ part_length 16384 _ (rw (← c.columns.view_is) at c.requires.columns.few) in
    touching-marked c.args.columns.now _ _ _ c.mark_references.ensures c.mark_symbols.ensures (rw (← c.columns.view_is) size)
