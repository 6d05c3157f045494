-- `reached_modules::inner::source_reachable_modules`: the roots are marked, and then spread along the edges.
-- Assumes nothing.
use Rattle.std.proofs.Common.{ℕ, length, sym, ap, ◌∙◌, arith}
use Rattle.strong_connection.specs.inner.Graph.{EdgeColumns}
use Rattle.marks.proofs.Parts.{part_none, part_length}
use Rattle.import_edges.proofs.Edging.{spreadable-none}
use Rattle.current_columns.specs.AsProject.{project}
use Rattle.reached_modules.proofs.Listing.{reaching}
use Rattle.reached_modules.proofs.inner.source_reachable_modules.Goals as goal

pub spread-requires : goal.spread-requires
spread-requires c =
    let n = part_length 4096 _ c.requires.few in
    spreadable-none (omega (arith, c.mark_owners.auto.marks, n)) (c.mark_owners.auto.marks ∙ sym (ap (λ (g : EdgeColumns). g.places) c.new-imports.ensures)) (sym (c.mark_owners.auto.marks ∙ n)) c.requires.none

pub mark_owners-requires-clause-values : goal.mark_owners-requires-clause-values
unfolding project
mark_owners-requires-clause-values c = let e = rw (← c.columns.view_is) at c.requires.includeds in rw e c.requires.roots

pub returns : goal.returns
unfolding project
returns c =
    let a = c.args in
    let n : ℕ = length a.reached.now in
    rw (← c.columns.view_is)
    (reaching c.columns.inside.included.now a.roots.now a.from.now a.to.now _ _ _ _ (part_length 4096 n c.requires.few) (part_none 4096 n) c.mark_owners.ensures
    (rw c.new-imports.ensures at c.spread.ensures))
