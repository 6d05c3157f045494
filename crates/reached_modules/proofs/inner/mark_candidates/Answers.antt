-- The front of an array of zeros marks nothing.
use Rattle.std.proofs.Common.{length}
use Rattle.marks.proofs.Parts.{part_none}
use Rattle.reached_modules.proofs.inner.mark_candidates.Goals as goal

pub source_reachable_modules-requires-clause-none : goal.source_reachable_modules-requires-clause-none
source_reachable_modules-requires-clause-none c = part_none 4096 (length c.args.candidates.now)
