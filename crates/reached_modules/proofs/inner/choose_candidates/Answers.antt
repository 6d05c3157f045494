-- `reached_modules::inner::choose_candidates`: what the roots of the table reach, and the eligible modules of it.
-- Assumes nothing.
use Rattle.std.proofs.Common.{length, ap, ◌∙◌, arith}
use Rattle.lists.proofs.Laws.{length-marks_of}
use Rattle.eligibility.specs.Eligible.{eligible}
use Rattle.wrap_rules.proofs.Roots.{roots-below}
use Rattle.reached_modules.proofs.Choosing.{candidates-made, choosing-graph}
use Rattle.reached_modules.proofs.inner.choose_candidates.Goals as goal

pub mark_candidates-requires : goal.mark_candidates-requires
mark_candidates-requires c =
    let p = c.args.current.now in
    let g = c.requires.choosing in
    let accepted = c.columns-columns.ensures.accepted in
    rw (c.columns-columns.ensures.same, g.size) (record {
      few = accepted.sizes.normal;
      rows = omega (arith, g.edges.few, accepted.sizes.record_module);
      edges = choosing-graph p accepted _ _ _ _ _ g;
      includeds = accepted.sizes.included;
      roots = rw g.root (roots-below p accepted);
      modules = ap length g.eligible_set ∙ length-marks_of (eligible p) _;
      none = g.none;
    })

pub returns : goal.returns
returns c = candidates-made c.args.current.now c.columns-columns.ensures.accepted _ _ _ _ _ c.requires.choosing _ (rw c.columns-columns.ensures.same at c.mark_candidates.ensures)
